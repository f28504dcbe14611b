use Rattle.std.proofs.Common.{◌≡◌, ◌∙◌, List, ℕ, None, ap, sym, subst}
use Rattle.gomp_events.specs.Events.{open_number, share_number}
use Rattle.gomp_events.specs.declared.seen.Seen.{Seen}
use Rattle.gomp_types.specs.Least.{least}
use Rattle.gomp_shares.specs.Singles.{put_tests}
use Rattle.gomp_shares.proofs.Laws.{ordered_part_is_in_a_loop}
use Rattle.gomp_sections.proofs.SingleSteps.{copy_may_leave}
use Rattle.gomp_board.specs.declared.op.Op.TheVariants.{Put}
use Rattle.gomp_board.specs.Boards.{IsOpAdmittedOnce, Performs}
use Rattle.gomp_dispatch.proofs.shares.put_words.Goals as goal

pub leave-requires : goal.leave-requires
leave-requires g c =
    let (h, st) = c.look.ensures.known in
    let e = g.met.S.Shares.agrees c.args.shares.now h c.args.member st c.requires.member in
    let law = ordered_part_is_in_a_loop (g.S.Shares.members c.args.shares.now) c.args.member h (g.met.S.Shares.ruled c.args.shares.now h st) in
    let none = subst (λ (s : Seen). least (put_tests s) ≡ None) e c.requires.place in
    record { place = copy_may_leave (g.S.Shares.members c.args.shares.now) c.args.member _ h c.requires.member e law none }

pub step_admitted-requires-clause-admitted : goal.step_admitted-requires-clause-admitted
step_admitted-requires-clause-admitted g c =
    let (h, st, once) = c.requires.admitted in
    let e = c.look.ensures.value ∙ g.met.S.Shares.agrees c.args.shares.now h c.args.member st c.requires.member in
    let number : c.in-Some.share ≡ open_number c.args.member h = ap share_number (sym c.in-Some.is ∙ ap (λ (s : Seen). s.current) e) in
    subst (λ (i : ℕ). IsOpAdmittedOnce (Put i c.copied.result) c.args.member c.args.board.now) (sym number)
    (subst (λ (words : List ℕ). IsOpAdmittedOnce (Put (open_number c.args.member h) words) c.args.member c.args.board.now) (sym c.copied.ensures) once)

pub returns-clause-puts : goal.returns-clause-puts
returns-clause-puts g c = λ h st.
    let e = c.look.ensures.value ∙ g.met.S.Shares.agrees c.args.shares.now h c.args.member st c.requires.member in
    let number : c.in-Some.share ≡ open_number c.args.member h = ap share_number (sym c.in-Some.is ∙ ap (λ (s : Seen). s.current) e) in
    subst (λ (i : ℕ). Performs (Put i c.args.words.now) c.args.member c.args.board.now c.step_admitted.new.self c.step_admitted.result) number
    (subst (λ (words : List ℕ). Performs (Put c.in-Some.share words) c.args.member c.args.board.now c.step_admitted.new.self c.step_admitted.result) c.copied.ensures c.step_admitted.ensures.performs)
