-- What tools keep and count, by examples: for each line of a definition what it says, and what it alone refuses.
use Rattle.std.proofs.Common.{◌≡◌, ℕ, List, [], ◌∷◌, ◌++◌, ◌+◌, ◌-◌, ◌^◌, inl, inr, get_or, refl, sym, ap, ◌∙◌, arith}
use Rattle.gomp_ompt.specs.declared.record.Point.{Point}
use Rattle.gomp_ompt.specs.declared.record.Point.TheVariants.{ParallelBegin, Work, Dispatch}
use Rattle.gomp_ompt.specs.declared.record.Record.{Record}
use Rattle.gomp_ompt.specs.Records.{begin_record, end_record}
use Rattle.gomp_ompt.specs.Counts.{count_of, no_counts, with_record, capped, AddsCounts}
use Rattle.gomp_ompt.specs.Tools.{AfterEach}
use Rattle.gomp_ompt.specs.Traces.{TraceView, TakesRecord, TakesTraces, empty_trace}

-- Counts

pub new_counts_are_zero : (point : Point) → count_of no_counts point ≡ 0
new_counts_are_zero ParallelBegin = refl
new_counts_are_zero point = refl

abbrev a_begin : Record
a_begin = begin_record Work 0 0

abbrev an_end : Record
an_end = end_record Work 0 0

-- begin and end of an event count alike, another event's not
pub two_of_an_event : (count_of (with_record (with_record no_counts a_begin) an_end) Work ≡ 2) × (count_of (with_record no_counts a_begin) Dispatch ≡ 0)
two_of_an_event = (refl, refl)

pub count_stays_at_the_largest : (capped (2 ^ 64 - 2 + 1) ≡ 2 ^ 64 - 1) × (capped (2 ^ 64 - 1 + 1) ≡ 2 ^ 64 - 1)
count_stays_at_the_largest = (refl, refl)

-- two others, each with a begin
pub counts_are_added : AddsCounts (with_record no_counts a_begin) (with_record no_counts a_begin ∷ with_record no_counts an_end ∷ []) (with_record (with_record (with_record no_counts a_begin) a_begin) a_begin)
counts_are_added ParallelBegin = refl
counts_are_added point = refl

pub counts_of_another_forgotten : AddsCounts no_counts (with_record no_counts a_begin ∷ []) no_counts → ⊥
counts_of_another_forgotten adds = absurd (let work = adds Work in cc)

-- its own begin is forgotten
pub own_counts_forgotten : AddsCounts (with_record no_counts a_begin) (with_record no_counts a_begin ∷ []) (with_record no_counts a_begin) → ⊥
own_counts_forgotten adds = absurd (let work = adds Work in cc)

-- a tool that counts gets two records, and then has counted two
pub each_record_is_given : AfterEach (λ old event new. new ≡ with_record old event) no_counts (a_begin ∷ an_end ∷ []) (with_record (with_record no_counts a_begin) an_end)
each_record_is_given = (with_record no_counts a_begin, refl, (with_record (with_record no_counts a_begin) an_end, refl, refl))

-- it gets one record of the two
pub second_record_is_missing : AfterEach (λ old event new. new ≡ with_record old event) no_counts (a_begin ∷ an_end ∷ []) (with_record no_counts a_begin) → ⊥
second_record_is_missing (one, first, (two, second, same)) = absurd (let work = ap (λ (counts : List ℕ). count_of counts Work) (ap (λ (counts : List ℕ). with_record counts an_end) (sym first) ∙ sym second ∙ same) in cc)

-- Traces

abbrev trace_of : List Record → ℕ → ℕ → TraceView
trace_of records lost room = record { records = records; lost = lost; room = room }

-- a record is kept behind the earlier ones
pub record_is_kept : TakesRecord (trace_of (a_begin ∷ []) 3 0) an_end (trace_of (a_begin ∷ an_end ∷ []) 3 5)
record_is_kept = inl (record { kept = refl; lost = refl })

-- or lost, if there is no room
pub record_is_lost : TakesRecord (trace_of (a_begin ∷ []) 3 0) an_end (trace_of (a_begin ∷ []) 4 0)
record_is_lost = inr (record { full = omega arith; kept = refl; lost = refl })

-- but not if there is
pub room_is_used : TakesRecord (trace_of (a_begin ∷ []) 3 1) an_end (trace_of (a_begin ∷ []) 4 1) → ⊥
room_is_used takes = elim takes [ inl keeps ↦ absurd (let lost = keeps.lost in omega (arith, lost)) | inr loses ↦ absurd (omega (arith, loses.full)) ]

-- it is neither kept nor counted
pub lost_record_is_counted : TakesRecord (trace_of (a_begin ∷ []) 3 0) an_end (trace_of (a_begin ∷ []) 3 0) → ⊥
lost_record_is_counted takes = elim takes [ inl keeps ↦ absurd (let kept = keeps.kept in cc) | inr loses ↦ absurd (let lost = loses.lost in omega (arith, lost)) ]

-- it is kept, and counted too
pub kept_record_is_not_counted : TakesRecord (trace_of [] 3 0) an_end (trace_of (an_end ∷ []) 4 0) → ⊥
kept_record_is_not_counted takes = elim takes [ inl keeps ↦ absurd (let lost = keeps.lost in omega (arith, lost)) | inr loses ↦ absurd (let kept = loses.kept in cc) ]

-- it is kept in front of the others
pub order_is_kept : TakesRecord (trace_of (a_begin ∷ []) 0 0) an_end (trace_of (an_end ∷ a_begin ∷ []) 0 0) → ⊥
order_is_kept takes = elim takes [ inl keeps ↦ absurd (let first_scope = ap (λ (records : List Record). (get_or records 0 an_end).scope) keeps.kept in cc) | inr loses ↦ absurd (let kept = loses.kept in cc) ]

-- with the record those are lost that were kept
pub earlier_records_stay : TakesRecord (trace_of (a_begin ∷ []) 0 0) an_end (trace_of [] 1 0) → ⊥
earlier_records_stay takes = elim takes [ inl keeps ↦ absurd (let kept = keeps.kept in cc) | inr loses ↦ absurd (let kept = loses.kept in cc) ]

-- the records of two traces in their order, with what the first had lost; there was no memory for those of the second
pub traces_are_taken : TakesTraces empty_trace (trace_of (a_begin ∷ an_end ∷ []) 2 0 ∷ trace_of (an_end ∷ []) 0 0 ∷ []) (trace_of (a_begin ∷ an_end ∷ []) 3 0)
traces_are_taken = (trace_of (a_begin ∷ an_end ∷ []) 2 0, inl (record { kept = refl; lost = refl }), (trace_of (a_begin ∷ an_end ∷ []) 3 0, inr (record { full = omega arith; kept = refl; lost = refl }), refl))

-- what a trace had lost is forgotten
pub lost_count_is_kept : TakesTraces empty_trace (trace_of [] 2 0 ∷ []) (trace_of [] 0 0) → ⊥
lost_count_is_kept (between, takes, same) = elim takes [ inl keeps ↦ absurd (let lost = keeps.lost in let ends = ap (λ (trace : TraceView). trace.lost) same in omega (arith, lost, ends)) | inr loses ↦ absurd (omega (arith, loses.full)) ]

-- the first of two traces comes last
pub order_of_traces_is_kept : TakesTraces empty_trace (trace_of (a_begin ∷ []) 0 0 ∷ trace_of (an_end ∷ []) 0 0 ∷ []) (trace_of (an_end ∷ a_begin ∷ []) 0 0) → ⊥
order_of_traces_is_kept (one, first, (two, second, same)) =
    let records = ap (λ (trace : TraceView). trace.records) same in
    let lost = ap (λ (trace : TraceView). trace.lost) same in
    elim first [
      | inl keeps ↦ elim second [
        | inl keeps_too ↦ absurd (let first_scope = ap (λ (kept : List Record). (get_or kept 0 a_begin).scope) (sym records ∙ keeps_too.kept ∙ ap (λ (kept : List Record). kept ++ an_end ∷ []) keeps.kept) in cc)
        | inr loses_then ↦ absurd (omega (arith, lost, loses_then.lost))
      ]
      | inr loses ↦ elim second [
        | inl keeps_then ↦ absurd (omega (arith, lost, keeps_then.lost, loses.lost))
        | inr loses_too ↦ absurd (omega (arith, lost, loses_too.lost))
      ]
    ]
