-- When two members arrive at one barrier. OpenMP API 5.2, section 15.3: all members of a team meet the same barriers in the same order.
use Rattle.std.specs.Prelude.{Bool, true, false, not, ◌&&◌, ◌==◌, ℕ, Option, Some, None}
use Rattle.gomp_events.specs.declared.event.Arrival.{Arrival}
use Rattle.gomp_events.specs.declared.event.Arrival.TheVariants.{Barrier, ShareEnd, RegionEnd}
use Rattle.gomp_events.specs.declared.event.Tag.{Tag}

-- two kinds of arrival are the same
abbrev pub same_arrival : Arrival → Arrival → Bool
same_arrival Barrier Barrier = true
same_arrival ShareEnd ShareEnd = true
same_arrival RegionEnd RegionEnd = true
same_arrival _ _ = false

-- two tags agree in the kind and in the number of started shares
abbrev pub same_tag : Tag → Tag → Bool
same_tag a b = same_arrival a.kind b.kind && a.shares == b.shares

-- the tag of an arrival of this kind, by a member that has entered so many shares
abbrev pub tag_with : Arrival → ℕ → Tag
tag_with kind shares = record { kind = kind; shares = shares }

-- whether the team's barrier has another tag
abbrev pub tag_differs : Tag → Option Tag → Bool
tag_differs tag None = false
tag_differs tag (Some other) = not (same_tag other tag)
