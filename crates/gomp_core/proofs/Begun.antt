-- A new team stands for a record in which nothing happened.
use Rattle.std.proofs.Common.{◌≡◌, ℕ, List, [], replicate, length, refl, ap, ◌∙◌, sym, subst, arith}
use Rattle.std.specs.Prelude.{◌≤◌}
use Rattle.std.proofs.lemmas.List.{length-replicate}
use Rattle.gomp_types.specs.declared.limits.Limits.{Limits}
use Rattle.gomp_events.specs.declared.event.Event.{Event}
use Rattle.gomp_types.specs.Limits.{capped_limits, IsTeamSize}
use Rattle.gomp_events.specs.Events.{open_share}
use Rattle.gomp_events.specs.Laws.{Always}
use Rattle.gomp_events.specs.TaskCalls.{first_room}
use Rattle.gomp_locks.specs.Book.{BookView}
use Rattle.gomp_model.specs.Past.{Terms, Waits, no_waits}
use Rattle.gomp_model.specs.Team.{Record, past_of}
use Rattle.gomp_icv.specs.Variables.{Variables}
use Rattle.gomp_board.specs.Boards.{BoardView, Stands as BoardStands, members_of as board_members, kept_by}
use Rattle.gomp_dispatch.specs.Answers.{room_left, PutsInside}
use Rattle.gomp_book_calls.specs.Stands.{IsKnown}
use Rattle.gomp_core.specs.Stands.{TeamView, Stands, Begins, terms_by}
use Rattle.gomp_core.proofs.Admitted.{same_members, same_limits}
use Rattle.gomp_dispatch.specs.declared.leaving.Leaving.{Leaving}
use Rattle.gomp_dispatch.specs.Leaves.{leaves_nothing}
use Rattle.gomp_core.proofs.Stepping.{nobody_waits, nobody_leaves, stands_by}

-- the parts of a new team
pub record NewParts {S : Type 0} (stands : S → List Event → Type 0) (members : S → ℕ) (count : ℕ) (limits : Limits) (board : BoardView) (shares : S) : Type 0 where
  pub members_are : board_members board ≡ count
  pub limits_are : board.limits ≡ limits
  pub room : board.room ≡ first_room count
  pub board_is : BoardStands board []
  pub shares_are : stands shares []
  pub size : members shares ≡ count

quiet_keeps_none : (k : ℕ) (board : BoardView) (h : List Event) → h ≡ [] → room_left (open_share k h) ≤ kept_by k board
quiet_keeps_none k board h quiet = rw quiet (omega arith)

pub begun_stands : {S : Type 0} (stands : S → List Event → Type 0) (members : S → ℕ) (count : ℕ) (limits : Limits) (icv : Variables) (board : BoardView) (waits : List Waits) (leaving : List Leaving) (book : BookView) (shares : S) (before : Record) →
    IsTeamSize count → capped_limits limits ≡ limits → Begins (terms_by count limits icv) book before → NewParts stands members count limits board shares → waits ≡ replicate count no_waits → leaving ≡ replicate count leaves_nothing →
    Stands stands members (record { icv = icv; board = board; waits = waits; leaving = leaving; book = book; shares = shares }) before
begun_stands {S} stands members count limits icv board waits leaving book shares before size small begins new none stay =
    let terms : Terms = terms_by count limits icv in
    let p = past_of terms before in
    let team : TeamView S = record { icv = icv; board = board; waits = waits; leaving = leaving; book = book; shares = shares } in
    let many : length waits ≡ count = ap length none ∙ length-replicate {A = Waits} count no_waits in
    stands_by stands members terms team before (rw (many, new.limits_are) refl)
    (record {
      caused = begins.caused;
      parts_are = record {
        shares_are = subst (stands shares) (sym begins.quiet) new.shares_are;
        board_is = subst (BoardStands board) (sym begins.quiet) new.board_is;
        members = same_members terms before ∙ sym new.members_are;
        limits = same_limits terms before small ∙ sym new.limits_are;
        room = begins.room ∙ sym new.room;
        kept = λ k. quiet_keeps_none k board p.events begins.quiet;
        puts = subst (Always PutsInside) (sym begins.quiet) tt;
      };
      book_are = begins.book_are;
      names_known = λ m. subst (λ (w : Waits). IsKnown book w.open_call) (sym (begins.nobody m)) tt;
      wait = λ m own at. begins.nobody m ∙ nobody_waits waits count m own none at;
      leave = λ m own at. nobody_leaves leaving count m own p.events stay at begins.quiet;
      waiting_kept = λ m call is. absurd (let open_call = sym (ap (λ (w : Waits). w.open_call) (begins.nobody m)) ∙ is in cc);
    })
    (subst IsTeamSize (sym many) size) (rw new.limits_are small) (new.size ∙ sym many) (ap length stay ∙ length-replicate {A = Leaving} count leaves_nothing ∙ sym many)
