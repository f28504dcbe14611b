-- A call on the share that a member is in, which neither starts a share nor arrives at a barrier: what it is tested for. OpenMP API 5.2, sections 11.3, 11.5, 15.10.2, 16.1 and 16.2.
use Rattle.std.specs.Prelude.{ℕ, List}
use Rattle.gomp_types.specs.declared.cancel.CancelKind.{CancelKind}
use Rattle.gomp_types.specs.declared.cancel.CancelKind.TheVariants.{Loop as OfLoop, Sections as OfSections}
use Rattle.gomp_types.specs.declared.loop_desc.EndKind.TheVariants.{Nowait}
use Rattle.gomp_types.specs.Tests.{Test}
use Rattle.gomp_events.specs.declared.event.Event.{Event}
use Rattle.gomp_events.specs.Seen.{seen_of}
use Rattle.gomp_shares.specs.declared.admission.Construct.{Construct}
use Rattle.gomp_shares.specs.declared.admission.Construct.TheVariants.{Loop, Sections}
use Rattle.gomp_shares.specs.Admission.{next_tests_of, all_end_tests}
use Rattle.gomp_shares.specs.Cancels.{cancel_place_tests}
use Rattle.gomp_shares.specs.OrderedParts.{part_tests, part_end_tests}
use Rattle.gomp_team_shares.specs.declared.inside.InsideCall.{InsideCall}
use Rattle.gomp_team_shares.specs.declared.inside.InsideCall.TheVariants.{Next, EndNowait, BeginPart, EndPart, Cancel}

-- what a construct that cancels such a share names
abbrev pub construct_kind : Construct → CancelKind
construct_kind Loop = OfLoop
construct_kind Sections = OfSections

-- the tests of the call
abbrev pub inside_tests : InsideCall → ℕ → List Event → List Test
inside_tests (Next construct) m h = next_tests_of construct (seen_of m h)
inside_tests (EndNowait construct) m h = all_end_tests construct Nowait m h
inside_tests (BeginPart value) m h = part_tests value (seen_of m h)
inside_tests EndPart m h = part_end_tests (seen_of m h)
inside_tests (Cancel construct clause allowed) m h = cancel_place_tests (construct_kind construct) (seen_of m h)
