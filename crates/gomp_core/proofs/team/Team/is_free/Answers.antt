use Rattle.std.proofs.Common.{◌≡◌, ◌∙◌, ◌<◌, ℕ, length, refl, ap, sym, subst, arith}
use Rattle.std.specs.Prelude.{option_copied}
use Rattle.std.proofs.lemmas.Option.{slice_get_read}
use Rattle.gomp_types.specs.Least.{least}
use Rattle.gomp_model.specs.Past.{Waits}
use Rattle.gomp_model.specs.Team.{member_tests}
use Rattle.gomp_dispatch.proofs.LetCalls.{none_was_found}
use Rattle.gomp_core.specs.Stands.{TeamView, IsFree, past, terms_of}
use Rattle.gomp_core.proofs.Admitted.{rule_of_holds}
use Rattle.gomp_core.proofs.Stepping.{same_stands, board_size}
use Rattle.gomp_core.proofs.Unrefused.{nothing_open, false_if_not}
use Rattle.gomp_core.proofs.team.Team.is_free.Goals as goal

pub member_refusal-requires : goal.member_refusal-requires
member_refusal-requires g c =
    let (before, st) = c.self.invariant in
    let lt : c.args.member < length c.self.inside.waits.items = let under = c.if-member-len.false in let len = c.len.ensures in omega arith in
    record { member = rw (board_size st) lt }

pub returns-clause-free : goal.returns-clause-free
returns-clause-free g c = λ e before st0.
    let team : TeamView g.row.S.Denot = record { icv = c.self.inside.icv; board = c.self.inside.board; waits = c.self.inside.waits.items; leaving = c.self.inside.leaving.items; book = c.self.inside.book; shares = c.self.inside.shares } in
    let st = same_stands g.S.Shares.stands g.S.Shares.members team c.args.self.now before c.self.view_is st0 in
    let p = past team before in
    let m = c.args.member in
    let lt : c.args.member < length c.self.inside.waits.items = let under = c.if-member-len.false in let len = c.len.ensures in omega arith in
    let at = slice_get_read c.self.inside.waits.items _ c.args.member _ refl lt c.index.ensures in
    let opened : (p.waits m).open_call ≡ option_copied c.open_call.result = ap (λ (w : Waits). w.open_call) (st.wait m _ at) ∙ sym c.open_call.ensures in
    let member : c.member_refusal.result ≡ least (member_tests p.terms.members m p.events) = c.member_refusal.ensures p.events st.parts_are.board_is ∙ ap (λ (n : ℕ). least (member_tests n m p.events)) (sym st.parts_are.members) in
    let named = c.holds_name.ensures p st.book_are (sym (c.current.ensures.value p.events st.parts_are.board_is)) (rule_of_holds (terms_of team) before st.caused) in
    subst (λ (t : TeamView g.row.S.Denot). IsFree m (past t before)) c.self.view_is (record {
      member = sym member ∙ none_was_found c.member_refusal.result c.is_some-2.result c.is_some-2.ensures c.if-is_some-2.false;
      quiet = opened ∙ rw (nothing_open c.open_call.result c.is_some.result c.is_some.ensures c.if-is_some.false) refl;
      nameless = sym named ∙ false_if_not c.holds_name.result e;
    })
