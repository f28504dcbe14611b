use Rattle.std.proofs.Common.{◌≡◌, ◌<◌, ◌≤◌, ◌∙◌, ap, subst, sym, arith}
use Rattle.gomp_types.specs.declared.refusal.Refusal.TheVariants.{BadMember, Mismatch}
use Rattle.gomp_types.specs.declared.refusal.Refusal.{Refusal}
use Rattle.gomp_types.specs.RefusalTexts.{number_of}
use Rattle.gomp_team_board.specs.Locked.{team_size}
use Rattle.gomp_team_calls.specs.Starts.{IsLate}
use Rattle.gomp_team_calls.proofs.Started.{inside_unless}
use Rattle.gomp_team_calls.proofs.starts.early_refusal.Goals as goal

pub returns-in-None-clause-late : goal.returns-in-None-clause-late
returns-in-None-clause-late g c = λ none k st.
    let inside = inside_unless (team_size c.args.board.now) c.args.member (λ out. (let bad = c.in-None.ensures.bad_member out in cc)) in
    subst IsLate (c.in-None.ensures.value k inside st) tt

pub returns-then-number-clause-late : goal.returns-then-number-clause-late
returns-then-number-clause-late g c = λ none k st.
    let late : number_of Mismatch ≤ number_of c.in-Some.refusal = omega (arith, c.if-number.true, c.number.ensures, c.number-in-Some.ensures) in
    let inside = inside_unless (team_size c.args.board.now) c.args.member (λ out.
    (let bad = c.in-Some.ensures.bad_member out in
    let same : c.in-Some.refusal ≡ BadMember = cc in
    let at = ap number_of same in
    omega (arith, late, at))) in
    subst IsLate (c.in-Some.ensures.value k inside st) late

pub returns-else-number-clause-early : goal.returns-else-number-clause-early
returns-else-number-clause-early g c = λ refusal is.
    let same : c.in-Some.refusal ≡ refusal = cc in
    let low : number_of c.in-Some.refusal < number_of Mismatch = omega (arith, c.if-number.false, c.number.ensures, c.number-in-Some.ensures) in
    (subst (λ (one : Refusal). number_of one < number_of Mismatch) same low, λ inside k st. sym (c.in-Some.ensures.value k inside st) ∙ is)
