-- Counts of records, one for each event. OpenMP API 5.2, section 19.5.2; that counts stay at the largest is own.
use Rattle.std.specs.Prelude.{◌≡◌, ℕ, ◌+◌, ◌-◌, ◌^◌, List, min, replicate, slice_index, slice_set, sum_by}
use Rattle.gomp_ompt.specs.declared.record.Point.{Point}
use Rattle.gomp_ompt.specs.declared.record.Record.{Record}
use Rattle.gomp_ompt.specs.declared.record.TheConstants.{POINTS}
use Rattle.gomp_ompt.specs.Points.{point_index}

-- a count of 64 bits, which stays at the largest
abbrev pub capped : ℕ → ℕ
capped count = min count (2 ^ 64 - 1)

-- how many records of this event are counted
abbrev pub count_of : List ℕ → Point → ℕ
count_of counts point = slice_index counts (point_index point)

-- no record is counted
abbrev pub no_counts : List ℕ
no_counts = replicate POINTS 0

-- one record more is counted
abbrev pub with_record : List ℕ → Record → List ℕ
with_record counts event = slice_set counts (point_index event.point) (capped (count_of counts event.point + 1))

-- of each event as many as there were, and as the others have
abbrev pub AddsCounts : List ℕ → List (List ℕ) → List ℕ → Type 0
AddsCounts old children new = (point : Point) → count_of new point ≡ capped (count_of old point + sum_by (λ child. count_of child point) children)
