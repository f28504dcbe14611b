use Rattle.std.proofs.Common.{◌≡◌, ◌∙◌, ◌<◌, ℕ, Some, None, length, refl, ap, sym, subst, arith, inl, inr}
use Rattle.std.specs.Prelude.{option_copied}
use Rattle.std.proofs.lemmas.Option.{slice_get_read}
use Rattle.gomp_types.specs.Least.{least}
use Rattle.gomp_types.specs.declared.call.Call.TheVariants.{Barrier, RegionEnd}
use Rattle.gomp_model.specs.Past.{Waits}
use Rattle.gomp_model.specs.Team.{member_tests}
use Rattle.gomp_dispatch.proofs.LetCalls.{none_told}
use Rattle.gomp_core.specs.Stands.{TeamView, past}
use Rattle.gomp_core.proofs.Stepping.{same_stands, board_size}
use Rattle.gomp_core.proofs.Unrefused.{resume_unrefused}
use Rattle.gomp_core.proofs.team.Team.lets_wait_on.Goals as goal

pub member_refusal-requires : goal.member_refusal-requires
member_refusal-requires g c =
    let (before, st) = c.self.invariant in
    let lt : c.args.member < length c.self.inside.waits.items = let under = c.if-member-len.false in let len = c.len.ensures in omega arith in
    record { member = rw (board_size st) lt }

pub member_refusal-requires-in-Some-RegionEnd : goal.member_refusal-requires-in-Some-RegionEnd
member_refusal-requires-in-Some-RegionEnd g c =
    let (before, st) = c.self.invariant in
    let lt : c.args.member < length c.self.inside.waits.items = let under = c.if-member-len.false in let len = c.len.ensures in omega arith in
    record { member = rw (board_size st) lt }

-- What waits there

pub returns-in-Some-Barrier-clause-waits : goal.returns-in-Some-Barrier-clause-waits
returns-in-Some-Barrier-clause-waits g c = λ e before st0.
    let team : TeamView g.row.S.Denot = record { icv = c.self.inside.icv; board = c.self.inside.board; waits = c.self.inside.waits.items; leaving = c.self.inside.leaving.items; book = c.self.inside.book; shares = c.self.inside.shares } in
    let st = same_stands g.S.Shares.stands g.S.Shares.members team c.args.self.now before c.self.view_is st0 in
    let lt : c.args.member < length c.self.inside.waits.items = let under = c.if-member-len.false in let len = c.len.ensures in omega arith in
    let at = slice_get_read c.self.inside.waits.items _ c.args.member _ refl lt c.index.ensures in
    let open_now : option_copied c.open_call.result ≡ Some Barrier = rw c.in-Some-Barrier.is (ap Some c.in-Some-Barrier.field-0-is) in
    inl (subst (λ (t : TeamView g.row.S.Denot). ((past t before).waits c.args.member).open_call ≡ Some Barrier) c.self.view_is (ap (λ (w : Waits). w.open_call) (st.wait c.args.member _ at) ∙ sym c.open_call.ensures ∙ open_now))

pub returns-in-Some-RegionEnd-clause-waits : goal.returns-in-Some-RegionEnd-clause-waits
returns-in-Some-RegionEnd-clause-waits g c = λ e before st0.
    let team : TeamView g.row.S.Denot = record { icv = c.self.inside.icv; board = c.self.inside.board; waits = c.self.inside.waits.items; leaving = c.self.inside.leaving.items; book = c.self.inside.book; shares = c.self.inside.shares } in
    let st = same_stands g.S.Shares.stands g.S.Shares.members team c.args.self.now before c.self.view_is st0 in
    let lt : c.args.member < length c.self.inside.waits.items = let under = c.if-member-len.false in let len = c.len.ensures in omega arith in
    let at = slice_get_read c.self.inside.waits.items _ c.args.member _ refl lt c.index.ensures in
    let open_now : option_copied c.open_call.result ≡ Some RegionEnd = rw c.in-Some-RegionEnd.is (ap Some c.in-Some-RegionEnd.field-0-is) in
    inr (subst (λ (t : TeamView g.row.S.Denot). ((past t before).waits c.args.member).open_call ≡ Some RegionEnd) c.self.view_is (ap (λ (w : Waits). w.open_call) (st.wait c.args.member _ at) ∙ sym c.open_call.ensures ∙ open_now))

-- Nothing refuses it

pub returns-in-Some-Barrier-clause-unrefused : goal.returns-in-Some-Barrier-clause-unrefused
returns-in-Some-Barrier-clause-unrefused g c = λ e before st0.
    let team : TeamView g.row.S.Denot = record { icv = c.self.inside.icv; board = c.self.inside.board; waits = c.self.inside.waits.items; leaving = c.self.inside.leaving.items; book = c.self.inside.book; shares = c.self.inside.shares } in
    let st = same_stands g.S.Shares.stands g.S.Shares.members team c.args.self.now before c.self.view_is st0 in
    let p = past team before in
    let m = c.args.member in
    let found : c.member_refusal.result ≡ least (member_tests p.terms.members m p.events) = c.member_refusal.ensures p.events st.parts_are.board_is ∙ ap (λ (n : ℕ). least (member_tests n m p.events)) (sym st.parts_are.members) in
    let none : least (member_tests p.terms.members m p.events) ≡ None = sym found ∙ none_told c.member_refusal.result c.is_none.result c.is_none.ensures e in
    resume_unrefused m (past c.args.self.now before) (subst (λ (t : TeamView g.row.S.Denot). least (member_tests (past t before).terms.members m (past t before).events) ≡ None) c.self.view_is none) (returns-in-Some-Barrier-clause-waits g c e before st0)

pub returns-in-Some-RegionEnd-clause-unrefused : goal.returns-in-Some-RegionEnd-clause-unrefused
returns-in-Some-RegionEnd-clause-unrefused g c = λ e before st0.
    let team : TeamView g.row.S.Denot = record { icv = c.self.inside.icv; board = c.self.inside.board; waits = c.self.inside.waits.items; leaving = c.self.inside.leaving.items; book = c.self.inside.book; shares = c.self.inside.shares } in
    let st = same_stands g.S.Shares.stands g.S.Shares.members team c.args.self.now before c.self.view_is st0 in
    let p = past team before in
    let m = c.args.member in
    let found : c.member_refusal-in-Some-RegionEnd.result ≡ least (member_tests p.terms.members m p.events) = c.member_refusal-in-Some-RegionEnd.ensures p.events st.parts_are.board_is ∙ ap (λ (n : ℕ). least (member_tests n m p.events)) (sym st.parts_are.members) in
    let none : least (member_tests p.terms.members m p.events) ≡ None = sym found ∙ none_told c.member_refusal-in-Some-RegionEnd.result c.is_none-in-Some-RegionEnd.result c.is_none-in-Some-RegionEnd.ensures e in
    resume_unrefused m (past c.args.self.now before) (subst (λ (t : TeamView g.row.S.Denot). least (member_tests (past t before).terms.members m (past t before).events) ≡ None) c.self.view_is none) (returns-in-Some-RegionEnd-clause-waits g c e before st0)
