use Rattle.std.proofs.Common.{rules, ◌≡◌, [], false, refl}
use Rattle.gomp_types.specs.declared.call.Call.TheVariants.{LoopStart, LoopNext, LoopEndNowait, SectionsStart, SectionsNext, SectionsEndNowait, Cancel, Point, SingleStart, OrderedStart}
use Rattle.gomp_types.specs.declared.loop_desc.EndKind.TheVariants.{Nowait}
use Rattle.gomp_types.specs.Iterations.{loop_tests}
use Rattle.gomp_types.specs.Pieces.{shape_of}
use Rattle.gomp_types.specs.Sections.{sections_shape, sections_tests}
use Rattle.gomp_types.specs.Singles.{single_shape}
use Rattle.gomp_shares.specs.Starts.{start_tests}
use Rattle.gomp_shares.specs.Loops.{next_tests, end_tests}
use Rattle.gomp_shares.specs.Sections.{section_next_tests, sections_end_tests}
use Rattle.gomp_types.specs.Least.{least}
use Rattle.gomp_shares.specs.OrderedParts.{part_tests}
use Rattle.gomp_model.specs.Calls.{row_of}
use Rattle.gomp_dispatch.proofs.Refused.{rising_least, admits_start, admits_none, cancel_placed, cancel_low}
use Rattle.gomp_dispatch.proofs.refusals.share_shape.Goals as goal

pub returns-in-LoopStart : goal.returns-in-LoopStart
returns-in-LoopStart c =
    let tests = start_tests (loop_tests c.in-LoopStart.desc) c.args.limits.now c.args.seen.now in
    rw c.in-LoopStart.is (admits_start (row_of (LoopStart c.in-LoopStart.desc)) c.args.limits.now c.args.seen.now tests (shape_of c.in-LoopStart.desc) c.loop_start_shape.result c.share_started.result refl refl refl
    c.loop_start_shape.ensures.first c.loop_start_shape.ensures.place c.share_started.ensures refl refl (λ m p. refl))

pub returns-in-LoopNext : goal.returns-in-LoopNext
returns-in-LoopNext c =
    let least = rising_least c.next_refusal.result (next_tests c.args.seen.now) c.next_refusal.ensures.first refl in
    rw c.in-LoopNext.is (admits_none 34 (row_of LoopNext) c.args.limits.now c.args.seen.now c.next_refusal.result c.none_started.result c.none_started.ensures least refl refl (λ m p. refl))

pub returns-in-LoopEndNowait : goal.returns-in-LoopEndNowait
returns-in-LoopEndNowait c =
    let least = rising_least c.end_construct_refusal.result (end_tests Nowait c.args.seen.now) c.end_construct_refusal.ensures.first refl in
    rw c.in-LoopEndNowait.is (admits_none 18 (row_of LoopEndNowait) c.args.limits.now c.args.seen.now c.end_construct_refusal.result c.none_started-in-LoopEndNowait.result c.none_started-in-LoopEndNowait.ensures least refl refl (λ m p. refl))

pub returns-in-SectionsStart : goal.returns-in-SectionsStart
returns-in-SectionsStart c =
    let tests = start_tests (sections_tests c.in-SectionsStart.count) c.args.limits.now c.args.seen.now in
    rw c.in-SectionsStart.is (admits_start (row_of (SectionsStart c.in-SectionsStart.count c.in-SectionsStart.end_kind)) c.args.limits.now c.args.seen.now tests (sections_shape c.in-SectionsStart.count c.in-SectionsStart.end_kind)
    c.sections_start_shape.result c.share_started-in-SectionsStart.result refl refl refl c.sections_start_shape.ensures.first c.sections_start_shape.ensures.place c.share_started-in-SectionsStart.ensures refl refl (λ m p. refl))

pub returns-in-SectionsNext : goal.returns-in-SectionsNext
returns-in-SectionsNext c =
    let least = rising_least c.next_refusal-in-SectionsNext.result (section_next_tests c.args.seen.now) c.next_refusal-in-SectionsNext.ensures.first refl in
    rw c.in-SectionsNext.is (admits_none 34 (row_of SectionsNext) c.args.limits.now c.args.seen.now c.next_refusal-in-SectionsNext.result c.none_started-in-SectionsNext.result c.none_started-in-SectionsNext.ensures least refl refl (λ m p. refl))

pub returns-in-SectionsEndNowait : goal.returns-in-SectionsEndNowait
returns-in-SectionsEndNowait c =
    let least = rising_least c.end_construct_refusal-in-SectionsEndNowait.result (sections_end_tests Nowait c.args.seen.now) c.end_construct_refusal-in-SectionsEndNowait.ensures.first refl in
    rw c.in-SectionsEndNowait.is (admits_none 18 (row_of SectionsEndNowait) c.args.limits.now c.args.seen.now c.end_construct_refusal-in-SectionsEndNowait.result c.none_started-in-SectionsEndNowait.result c.none_started-in-SectionsEndNowait.ensures least refl refl (λ m p. refl))

pub returns-in-SingleStart : goal.returns-in-SingleStart
returns-in-SingleStart c =
    let tests = start_tests [] c.args.limits.now c.args.seen.now in
    rw c.in-SingleStart.is (admits_start (row_of SingleStart) c.args.limits.now c.args.seen.now tests (single_shape false) c.single_start_shape.result c.share_started-in-SingleStart.result refl refl refl
    c.single_start_shape.ensures.first c.single_start_shape.ensures.place c.share_started-in-SingleStart.ensures refl refl (λ m p. refl))

pub returns-in-OrderedStart : goal.returns-in-OrderedStart
returns-in-OrderedStart c =
    let told : c.ordered_start_refusal.result ≡ least (part_tests c.in-OrderedStart.value c.args.seen.now) = search rules in
    rw c.in-OrderedStart.is (admits_none 34 (row_of (OrderedStart c.in-OrderedStart.value)) c.args.limits.now c.args.seen.now c.ordered_start_refusal.result c.none_started-in-OrderedStart.result c.none_started-in-OrderedStart.ensures told refl refl (λ m p. refl))

pub returns-in-Cancel : goal.returns-in-Cancel
returns-in-Cancel c =
    let least = cancel_placed c.in-Cancel.kind c.args.seen.now c.cancel_share_refusal.result c.cancel_share_refusal.ensures.first in
    rw c.in-Cancel.is (admits_none 34 (row_of (Cancel c.in-Cancel.kind c.in-Cancel.clause)) c.args.limits.now c.args.seen.now c.cancel_share_refusal.result c.none_started-in-Cancel.result c.none_started-in-Cancel.ensures least refl
    (cancel_low c.in-Cancel.kind c.args.seen.now) (λ m p. refl))

pub returns-in-Point : goal.returns-in-Point
returns-in-Point c =
    let least = cancel_placed c.in-Point.kind c.args.seen.now c.cancel_share_refusal-in-Point.result c.cancel_share_refusal-in-Point.ensures.first in
    rw c.in-Point.is (admits_none 34 (row_of (Point c.in-Point.kind)) c.args.limits.now c.args.seen.now c.cancel_share_refusal-in-Point.result c.none_started-in-Point.result c.none_started-in-Point.ensures least refl
    (cancel_low c.in-Point.kind c.args.seen.now) (λ m p. refl))
