-- No construct is started otherwise than as its own tests, its shape and its deal have it (what no start is answered: AnswerRefutations), of any construct, limits, team, member and list of events.
use Rattle.std.proofs.Common.{ℕ, List, [], true, false}
use Rattle.gomp_types.specs.declared.limits.Limits.{Limits}
use Rattle.gomp_types.specs.declared.loop_desc.EndKind.{EndKind}
use Rattle.gomp_types.specs.declared.loop_desc.LoopDesc.{LoopDesc}
use Rattle.gomp_types.specs.declared.reply.Reply.{Reply}
use Rattle.gomp_events.specs.declared.event.Event.{Event}
use Rattle.gomp_types.specs.Iterations.{loop_tests}
use Rattle.gomp_types.specs.Pieces.{shape_of}
use Rattle.gomp_types.specs.Sections.{sections_shape, sections_tests}
use Rattle.gomp_types.specs.Singles.{single_shape}
use Rattle.gomp_shares.specs.Starts.{AnswersStart}
use Rattle.gomp_shares.specs.Loops.{AnswersLoopStart, DealsOut}
use Rattle.gomp_shares.specs.Sections.{AnswersSectionsStart, DealsSections}
use Rattle.gomp_shares.specs.Singles.{AnswersCopy, AnswersSingle, DealsCopy, DealsSingle}

pub no_loop_started_otherwise : (loop : LoopDesc) (limits : Limits) (members m : ℕ) (reply : Reply) (h : List Event) → (AnswersStart (loop_tests loop) (shape_of loop) DealsOut limits members m reply h → ⊥) → AnswersLoopStart loop limits members m reply h → ⊥
no_loop_started_otherwise loop limits members m reply h never answer = never answer

pub no_sections_started_otherwise : (count : ℕ) (kind : EndKind) (limits : Limits) (members m : ℕ) (reply : Reply) (h : List Event) → (AnswersStart (sections_tests count) (sections_shape count kind) DealsSections limits members m reply h → ⊥) →
    AnswersSectionsStart count kind limits members m reply h → ⊥
no_sections_started_otherwise count kind limits members m reply h never answer = never answer

pub no_single_started_otherwise : (limits : Limits) (members m : ℕ) (reply : Reply) (h : List Event) → (AnswersStart [] (single_shape false) DealsSingle limits members m reply h → ⊥) → AnswersSingle limits members m reply h → ⊥
no_single_started_otherwise limits members m reply h never answer = never answer

pub no_copy_started_otherwise : (limits : Limits) (members m : ℕ) (reply : Reply) (h : List Event) → (AnswersStart [] (single_shape true) DealsCopy limits members m reply h → ⊥) → AnswersCopy limits members m reply h → ⊥
no_copy_started_otherwise limits members m reply h never answer = never answer
