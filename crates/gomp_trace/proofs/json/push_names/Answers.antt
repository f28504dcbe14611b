use Rattle.std.proofs.Common.{◌≡◌, ◌∙◌, add-one, codes, string_bytes}
use Rattle.serde_json.specs.Written.{compact_text}
use Rattle.gomp_trace.specs.Json.{name_data}
use Rattle.gomp_trace.proofs.JsonLemmas.{name_appended}
use Rattle.gomp_trace.proofs.json.push_names.Goals as goal

pub loop-member-preserved : goal.loop-member-preserved
loop-member-preserved c =
    let text : string_bytes c.in_ok-name_text-2.field-0 ≡ compact_text (name_data c.as_str-in-loop-member.result.now (codes "thread_name") c.loop-member.member-counter) = c.in_ok-name_text-2.ensures in
    rw add-one (name_appended c.args.members c.loop-member.member-counter (string_bytes c.args.text.now) (string_bytes c.loop-member.text) (string_bytes c.push_line.new.text) c.as_str-in-loop-member-2.result.now c.as_str-in-loop-member.result.now
    c.loop-member.invariant c.in_ok-push_line.ensures (c.as_str-in-loop-member-2.ensures.value ∙ text) (c.as_str-in-loop-member.ensures.value ∙ c.in_ok-name.ensures.ok))
