-- Which words of singles are refused, and what those that are not keep. OpenMP API 5.2, section 5.7.2 (the refusals are own).
use Rattle.std.specs.Prelude.{ℕ, ◌≡◌, ◌%◌, nat_le, not, bytes_eq, Bool, false, List, [], ◌∷◌, Option, Some, None}
use Rattle.gomp_types.specs.declared.limits.TheConstants.{OPEN_SHARES}
use Rattle.gomp_types.specs.declared.refusal.Refusal.{Refusal}
use Rattle.gomp_types.specs.declared.refusal.Refusal.TheVariants.{NotInside}
use Rattle.gomp_events.specs.declared.event.Event.{Event}
use Rattle.gomp_events.specs.declared.event.Event.TheVariants.{Put as PutEvent, Got as GotEvent}
use Rattle.gomp_events.specs.Laws.{Always, Happened}
use Rattle.gomp_types.specs.Tests.{Test}
use Rattle.gomp_types.specs.Least.{least}
use Rattle.gomp_board.specs.declared.op.Op.{Op}
use Rattle.gomp_board.specs.declared.op.Op.TheVariants.{Put, Got}
use Rattle.gomp_board.specs.Payloads.{newest_put, share_of}
use Rattle.gomp_board.specs.KeptPayload.{kept_payload}

-- Tests

-- whether there is a share, and it is this one or a later one
abbrev pub is_from : ℕ → Option ℕ → Bool
is_from share None = false
is_from share (Some other) = nat_le share other

-- whether words for a share come late: some were put in it, or in a later one whose number leaves the same rest by OPEN_SHARES
abbrev pub come_late : ℕ → List Event → Bool
come_late share h = is_from share (share_of (newest_put (share % OPEN_SHARES) h))

-- whether there are words, and these are they
abbrev pub are_these : List ℕ → Option (List ℕ) → Bool
are_these words None = false
are_these words (Some kept) = bytes_eq kept words

-- words that come late are refused, and so is the note that a member is given words which do not lie in the share
abbrev pub words_tests : Op → List Event → List Test
words_tests (Put share words) h = (come_late share h, NotInside) ∷ []
words_tests (Got share words) h = (not (are_these words (kept_payload share h)), NotInside) ∷ []
words_tests op h = []

abbrev pub payload_refusal : Op → List Event → Option Refusal
payload_refusal op h = least (words_tests op h)

-- What the others keep

-- the rule of words, of each event, given those before it
abbrev pub WordsRule : Event → List Event → Type 0
WordsRule (PutEvent share m words) earlier = come_late share earlier ≡ false
WordsRule (GotEvent share m words) earlier = kept_payload share earlier ≡ Some words
WordsRule event earlier = Unit {0}

-- words are put in a share once
abbrev pub PutsInShareOnce : Event → List Event → Type 0
PutsInShareOnce (PutEvent share m words) earlier = (n : ℕ) (other : List ℕ) → Happened (PutEvent share n other) earlier → ⊥
PutsInShareOnce event earlier = Unit {0}

-- the words that a member is given were put in the share
abbrev pub GivesPutWords : Event → List Event → Type 0
GivesPutWords (GotEvent share m words) earlier = (n : ℕ) × Happened (PutEvent share n words) earlier
GivesPutWords event earlier = Unit {0}

-- so the laws of words hold
pub record WordsLaws (h : List Event) : Type 0 where
  pub puts : Always PutsInShareOnce h
  pub gifts : Always GivesPutWords h
