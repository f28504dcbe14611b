use Rattle.std.proofs.Common.{◌≡◌, ◌∙◌, ◌≤◌, true, ap}
use Rattle.gomp_types.specs.declared.limits.TheConstants.{MAX_MEMBERS}
use Rattle.gomp_service.specs.Statuses.{is_size}
use Rattle.gomp_service.proofs.SizeLemmas.{size_by, is_size_of, same_count}
use Rattle.gomp_trace.specs.Json.{trace_text}
use Rattle.gomp_trace.proofs.answer.trace_team.Goals as goal

pub returns-in-Ok : goal.returns-in-Ok
returns-in-Ok g c =
    let size : (1 ≤ c.team_size-members.result) × (c.team_size-members.result ≤ MAX_MEMBERS) = size_by c.team_size-members.result (λ wrong. let refused = c.in-Ok.ensures.size.1 wrong in absurd (cc)) in
    let same : c.args.count ≡ c.team_size-members.result = same_count c.team_size-members.result c.args.count c.team_size-members.ensures size.1 in
    let fine : is_size c.team_size-members.result ≡ true = is_size_of c.team_size-members.result size in
    rw (same, fine) (record {
      events = c.in-Ok.outcome.events.items;
      ran = c.in-Ok.ensures.ran;
      text_is = c.in_ok-trace_text-in-Ok.ensures ∙ ap (trace_text c.team_size-members.result) c.as_slice.ensures.value;
    })
