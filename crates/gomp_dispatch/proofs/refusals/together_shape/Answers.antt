use Rattle.std.proofs.Common.{[], true, refl, inl, inr}
use Rattle.gomp_types.specs.declared.call.Call.TheVariants.{LoopEnd, LoopEndCancel, SectionsEnd, SectionsEndCancel, SingleCopyStart, SingleCopyEnd, Barrier, RegionEnd}
use Rattle.gomp_types.specs.declared.loop_desc.EndKind.TheVariants.{Wait, Cancellable}
use Rattle.gomp_types.specs.Singles.{single_shape}
use Rattle.gomp_shares.specs.Starts.{start_tests}
use Rattle.gomp_shares.specs.Singles.{put_tests}
use Rattle.gomp_shares.specs.Loops.{end_tests}
use Rattle.gomp_shares.specs.Sections.{sections_end_tests}
use Rattle.gomp_model.specs.Calls.{row_of}
use Rattle.gomp_dispatch.proofs.Refused.{rising_least, admits_start, admits_none}
use Rattle.gomp_dispatch.proofs.refusals.together_shape.Goals as goal

pub returns-in-LoopEnd : goal.returns-in-LoopEnd
returns-in-LoopEnd c =
    let least = rising_least c.end_construct_refusal.result (end_tests Wait c.args.seen.now) c.end_construct_refusal.ensures.first refl in
    rw c.in-LoopEnd.is (admits_none 18 (row_of LoopEnd) c.args.limits.now c.args.seen.now c.end_construct_refusal.result c.none_started.result c.none_started.ensures least refl refl (λ m p. refl))

pub returns-in-LoopEndCancel : goal.returns-in-LoopEndCancel
returns-in-LoopEndCancel c =
    let least = rising_least c.end_construct_refusal-in-LoopEndCancel.result (end_tests Cancellable c.args.seen.now) c.end_construct_refusal-in-LoopEndCancel.ensures.first refl in
    rw c.in-LoopEndCancel.is (admits_none 18 (row_of LoopEndCancel) c.args.limits.now c.args.seen.now c.end_construct_refusal-in-LoopEndCancel.result c.none_started-in-LoopEndCancel.result c.none_started-in-LoopEndCancel.ensures least refl refl (λ m p. refl))

pub returns-in-SectionsEnd : goal.returns-in-SectionsEnd
returns-in-SectionsEnd c =
    let least = rising_least c.end_construct_refusal-in-SectionsEnd.result (sections_end_tests Wait c.args.seen.now) c.end_construct_refusal-in-SectionsEnd.ensures.first refl in
    rw c.in-SectionsEnd.is (admits_none 18 (row_of SectionsEnd) c.args.limits.now c.args.seen.now c.end_construct_refusal-in-SectionsEnd.result c.none_started-in-SectionsEnd.result c.none_started-in-SectionsEnd.ensures least refl refl (λ m p. refl))

pub returns-in-SectionsEndCancel : goal.returns-in-SectionsEndCancel
returns-in-SectionsEndCancel c =
    let least = rising_least c.end_construct_refusal-in-SectionsEndCancel.result (sections_end_tests Cancellable c.args.seen.now) c.end_construct_refusal-in-SectionsEndCancel.ensures.first refl in
    rw c.in-SectionsEndCancel.is (admits_none 18 (row_of SectionsEndCancel) c.args.limits.now c.args.seen.now c.end_construct_refusal-in-SectionsEndCancel.result c.none_started-in-SectionsEndCancel.result c.none_started-in-SectionsEndCancel.ensures least refl refl (λ m p. refl))

pub returns-in-SingleCopyStart : goal.returns-in-SingleCopyStart
returns-in-SingleCopyStart c =
    let tests = start_tests [] c.args.limits.now c.args.seen.now in
    rw c.in-SingleCopyStart.is (admits_start (row_of SingleCopyStart) c.args.limits.now c.args.seen.now tests (single_shape true) c.single_start_shape.result c.share_started.result refl refl refl
    c.single_start_shape.ensures.first c.single_start_shape.ensures.place c.share_started.ensures refl refl (λ m p. refl))

pub returns-in-SingleCopyEnd : goal.returns-in-SingleCopyEnd
returns-in-SingleCopyEnd c =
    let least = rising_least c.single_copy_end_refusal.result (put_tests c.args.seen.now) c.single_copy_end_refusal.ensures.first refl in
    rw c.in-SingleCopyEnd.is (admits_none 34 (row_of (SingleCopyEnd c.in-SingleCopyEnd.field-0)) c.args.limits.now c.args.seen.now c.single_copy_end_refusal.result c.none_started-in-SingleCopyEnd.result c.none_started-in-SingleCopyEnd.ensures least refl refl (λ m p. refl))

pub returns-in-Barrier : goal.returns-in-Barrier
returns-in-Barrier c =
    elim c.in-Barrier.is [
      | inl is ↦ rw is (admits_none 34 (row_of Barrier) c.args.limits.now c.args.seen.now c.barrier_refusal.result c.none_started-in-Barrier.result c.none_started-in-Barrier.ensures c.barrier_refusal.ensures refl refl (λ m p. refl))
      | inr is ↦ rw is (admits_none 34 (row_of RegionEnd) c.args.limits.now c.args.seen.now c.barrier_refusal.result c.none_started-in-Barrier.result c.none_started-in-Barrier.ensures c.barrier_refusal.ensures refl refl (λ m p. refl))
    ]
