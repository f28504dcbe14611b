use Rattle.std.proofs.Common.{◌≡◌, ◌<◌, ◌-◌, ◌∙◌, ℕ, length, take, drop, set, get_or, ap, arith, length-append, length-take, length-drop}
use Rattle.std.specs.Prelude.{map}
use Rattle.std.proofs.lemmas.List.{get_or_default, length-map}
use Rattle.std.proofs.lemmas.List.Edits.{map_over_more}
use Rattle.gomp_ready.proofs.marks.MemberMarks.lower.Goals as goal

pub loop-level-preserved : goal.loop-level-preserved
loop-level-preserved c =
    let lower : ℕ → ℕ = λ mark. mark - c.args.gone in
    let first = c.self.inside.levels in
    let levels = c.loop-level.self-inside.levels in
    let l = c.loop-level.level in
    let before = c.loop-level.invariant.lower in
    let long : length levels ≡ length first = omega (arith, ap length before, length-append (map lower (take l first)) (drop l first), length-map (take l first) lower, length-take l first, length-drop l first) in
    let within : l < length first = omega (arith, c.self.invariant) in
    let number = get_or levels l 0 in
    let less : c.saturating_sub.result ≡ number - c.args.gone = omega (arith, c.saturating_sub.ensures) in
    record { lower = ap (set levels l) less ∙ map_over_more lower first levels l number within before (get_or_default levels l 0 number (omega (arith, long, within))) }
