-- The tests that a member can make by what it sees of its own place, in the order of their numbers. (own)
use Rattle.std.specs.Prelude.{ℕ, Bool, false, List, ◌++◌}
use Rattle.gomp_types.specs.declared.loop_desc.EndKind.{EndKind}
use Rattle.gomp_types.specs.declared.shape.ShareKind.{ShareKind}
use Rattle.gomp_types.specs.Tests.{Test}
use Rattle.gomp_types.specs.Shapes.{is_loop, is_sections}
use Rattle.gomp_events.specs.Events.{in_kind}
use Rattle.gomp_events.specs.declared.seen.Seen.{Seen}
use Rattle.gomp_events.specs.declared.event.Event.{Event}
use Rattle.gomp_events.specs.Seen.{seen_of}
use Rattle.gomp_shares.specs.declared.admission.Construct.{Construct}
use Rattle.gomp_shares.specs.declared.admission.Construct.TheVariants.{Loop, Sections}
use Rattle.gomp_shares.specs.Starts.{drained_tests}
use Rattle.gomp_shares.specs.Loops.{next_tests, end_tests}
use Rattle.gomp_shares.specs.Sections.{section_next_tests, sections_end_tests}

-- the kinds of share that such a construct has
abbrev pub kinds_of : Construct → ShareKind → Bool
kinds_of Loop kind = is_loop kind
kinds_of Sections kind = is_sections kind

-- whether the member is in a share of such a kind
abbrev pub seen_in : (ShareKind → Bool) → Seen → Bool
seen_in is seen = in_kind is seen.current

-- whether it is in an ordered part; only loops have them
abbrev pub in_part_of : Construct → Seen → Bool
in_part_of Loop seen = seen.in_part
in_part_of Sections seen = false

-- the next piece
abbrev pub next_tests_of : Construct → Seen → List Test
next_tests_of Loop seen = next_tests seen
next_tests_of Sections seen = section_next_tests seen

-- the end, by the call for this end kind
abbrev pub end_tests_of : Construct → EndKind → Seen → List Test
end_tests_of Loop kind seen = end_tests kind seen
end_tests_of Sections kind seen = sections_end_tests kind seen

-- with the test that the share decides
abbrev pub all_end_tests : Construct → EndKind → ℕ → List Event → List Test
all_end_tests construct kind m h = end_tests_of construct kind (seen_of m h) ++ drained_tests m h
