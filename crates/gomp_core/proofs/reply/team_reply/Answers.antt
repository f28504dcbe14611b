use Rattle.std.proofs.Common.{◌∙◌, ap, sym, inl, inr}
use Rattle.std.specs.Prelude.{◌≢◌}
use Rattle.gomp_types.specs.declared.call.Server.TheVariants.{Book}
use Rattle.gomp_types.specs.Servers.{served_by}
use Rattle.gomp_events.specs.declared.event.Event.TheVariants.{Hold, Free}
use Rattle.gomp_core.proofs.AllAnswer.{book_answers, parts_answer}
use Rattle.gomp_core.proofs.reply.team_reply.Goals as goal

-- The book answers

pub book_admitted-requires-clause-asks : goal.book_admitted-requires-clause-asks
book_admitted-requires-clause-asks g c = sym c.served_by.ensures ∙ c.in-Book.is

pub book_admitted-requires-clause-admitted : goal.book_admitted-requires-clause-admitted
book_admitted-requires-clause-admitted g c = let (p, all, admitted) = c.requires.admitted in (p, all.1, sym (c.current-task.ensures.value p.events all.0.board_is), admitted.2, admitted.3)

pub book_admitted-requires-clause-known : goal.book_admitted-requires-clause-known
book_admitted-requires-clause-known g c = c.requires.known

pub returns-in-Book-clause-answers : goal.returns-in-Book-clause-answers
returns-in-Book-clause-answers g c =
    book_answers g.S.Shares.stands c.args.shares.now c.args.board.now c.args.book.now c.book_admitted.new.book c.args.call.now c.args.manner c.args.member c.current-task.result c.book_admitted.result (sym c.served_by.ensures ∙ c.in-Book.is)
    (λ h key m task st. (g.met.S.Shares.aside c.args.shares.now h (Hold key m task) tt st, g.met.S.Shares.aside c.args.shares.now h (Free key m task) tt st)) c.current-task.ensures.value c.book_admitted.ensures c.requires.admitted

-- The parts answer

pub call_admitted-requires-clause-aside : goal.call_admitted-requires-clause-aside
call_admitted-requires-clause-aside g c = λ is.
    elim c.in-Shares.is [
      | inl e ↦ absurd (let both = sym e ∙ c.served_by.ensures ∙ is in cc)
      | inr rest ↦ elim rest [
        | inl e ↦ absurd (let both = sym e ∙ c.served_by.ensures ∙ is in cc)
        | inr e ↦ absurd (let both = sym e ∙ c.served_by.ensures ∙ is in cc)
      ]
    ]

pub call_admitted-requires-clause-admitted : goal.call_admitted-requires-clause-admitted
call_admitted-requires-clause-admitted g c = let (p, all, admitted) = c.requires.admitted in (p, all.0, admitted.0, admitted.1)

pub returns-in-Shares-clause-answers : goal.returns-in-Shares-clause-answers
returns-in-Shares-clause-answers g c =
    let other : served_by c.args.call.now ≢ Book = λ is.
    elim c.in-Shares.is [
      | inl e ↦ absurd (let both = sym e ∙ c.served_by.ensures ∙ is in cc)
      | inr rest ↦ elim rest [
        | inl e ↦ absurd (let both = sym e ∙ c.served_by.ensures ∙ is in cc)
        | inr e ↦ absurd (let both = sym e ∙ c.served_by.ensures ∙ is in cc)
      ]
    ] in
    parts_answer g.S.Shares.stands c.args.shares.now c.call_admitted.new.shares c.args.board.now c.call_admitted.new.board c.args.book.now c.args.call.now c.args.manner c.args.member c.call_admitted.result other
    c.call_admitted.ensures.answers c.requires.admitted

-- of a next chunk, a barrier and the region's end too

pub returns-in-LoopNext-clause-answers : goal.returns-in-LoopNext-clause-answers
returns-in-LoopNext-clause-answers g c =
    let other : served_by c.args.call.now ≢ Book = λ is.
    elim c.in-LoopNext.is [
      | inl e ↦ absurd (let both = sym (ap served_by e) ∙ is in cc)
      | inr rest ↦ elim rest [
        | inl e ↦ absurd (let both = sym (ap served_by e) ∙ is in cc)
        | inr e ↦ absurd (let both = sym (ap served_by e) ∙ is in cc)
      ]
    ] in
    parts_answer g.S.Shares.stands c.args.shares.now c.call_admitted-in-LoopNext.new.shares c.args.board.now c.call_admitted-in-LoopNext.new.board c.args.book.now c.args.call.now c.args.manner c.args.member c.call_admitted-in-LoopNext.result other
    c.call_admitted-in-LoopNext.ensures.answers c.requires.admitted
