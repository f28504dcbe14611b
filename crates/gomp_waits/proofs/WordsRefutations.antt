-- Which words are never refused, never let through, never put and never given, of any shares, members, words and events; and examples at eight places.
use Rattle.std.proofs.Common.{◌≡◌, ◌≢◌, ℕ, true, false, List, [], ◌∷◌, Some, None, refl, ◌∙◌, sym, map}
use Rattle.std.specs.Prelude.{bytes_eq}
use Rattle.std.proofs.lemmas.Slice.Eq.{bytes_eq-Decides}
use Rattle.gomp_types.specs.declared.refusal.Refusal.{Refusal}
use Rattle.gomp_types.specs.declared.refusal.Refusal.TheVariants.{NotInside}
use Rattle.gomp_types.specs.Least.{least}
use Rattle.gomp_events.specs.declared.event.Event.{Event}
use Rattle.gomp_events.specs.declared.event.Event.TheVariants.{Put as PutEvent, Got as GotEvent}
use Rattle.gomp_events.specs.Laws.{Happened}
use Rattle.gomp_board.specs.declared.op.Op.{Op}
use Rattle.gomp_board.specs.declared.op.Op.TheVariants.{AwaitBarrier, OpenGroup, Reserve, Put, Got}
use Rattle.gomp_board.specs.KeptPayload.{kept_payload}
use Rattle.gomp_waits.specs.Words.{come_late, payload_refusal, WordsLaws}
use Rattle.gomp_waits.proofs.WordsKeep.{in_time, kept_as_noted}

-- Refusals

refused_if : (late : _) → late ≡ true → least ((late, NotInside) ∷ []) ≡ Some NotInside
refused_if true is = refl
refused_if false is = absurd (cc)

let_if : (late : _) → late ≡ false → least ((late, NotInside) ∷ []) ≡ None
let_if false is = refl
let_if true is = absurd (cc)

-- words that come late are never let through, and others are never refused
pub late_words_never_let_through : (share : ℕ) (words : List ℕ) (h : List Event) → come_late share h ≡ true → payload_refusal (Put share words) h ≡ None → ⊥
late_words_never_let_through share words h late fine = let refused = refused_if (come_late share h) late in let both : Some NotInside ≡ None = sym refused ∙ fine in cc

pub words_in_time_never_refused : (share : ℕ) (words : List ℕ) (h : List Event) (refusal : Refusal) → come_late share h ≡ false → payload_refusal (Put share words) h ≡ Some refusal → ⊥
words_in_time_never_refused share words h refusal early refused = let fine = let_if (come_late share h) early in let both : None ≡ Some refusal = sym fine ∙ refused in cc

-- words that lie in a share are never refused, and those that do not are never noted
pub kept_words_never_refused : (share : ℕ) (words : List ℕ) (h : List Event) (refusal : Refusal) → kept_payload share h ≡ Some words → payload_refusal (Got share words) h ≡ Some refusal → ⊥
kept_words_never_refused share words h refusal kept refused =
    let same : bytes_eq words words ≡ true = (bytes_eq-Decides words words).1 refl in
    absurd (let found = rw (kept, same) at refused in cc)

pub other_words_never_noted : (share : ℕ) (words : List ℕ) (h : List Event) → kept_payload share h ≢ Some words → payload_refusal (Got share words) h ≡ None → ⊥
other_words_never_noted share words h differs fine = differs (kept_as_noted words (kept_payload share h) (in_time _ fine))

-- no other operation is refused for its words
pub other_operation_never_refused : (op : Op) (h : List Event) (refusal : Refusal) → ((share : ℕ) (words : List ℕ) → op ≢ Put share words) → ((share : ℕ) (words : List ℕ) → op ≢ Got share words) → payload_refusal op h ≡ Some refusal → ⊥
other_operation_never_refused (Put share words) h refusal puts notes refused = puts share words refl
other_operation_never_refused (Got share words) h refusal puts notes refused = notes share words refl
other_operation_never_refused _ h refusal puts notes refused = cc

-- Laws

pub words_never_put_twice : (share m n : ℕ) (words other : List ℕ) (h : List Event) → WordsLaws (PutEvent share m words ∷ h) → Happened (PutEvent share n other) h → ⊥
words_never_put_twice share m n words other h laws before = laws.puts.0 n other before

pub words_never_given_unput : (share m : ℕ) (words : List ℕ) (h : List Event) → WordsLaws (GotEvent share m words ∷ h) → ((n : ℕ) → Happened (PutEvent share n words) h → ⊥) → ⊥
words_never_given_unput share m words h laws never = let (n, put) = laws.gifts.0 in never n put

pub earlier_words_keep_the_laws : (event : Event) (h : List Event) → WordsLaws (event ∷ h) → WordsLaws h
earlier_words_keep_the_laws event h laws = record { puts = laws.puts.1; gifts = laws.gifts.1 }

-- Examples

-- share 8 has the place of share 0, and share 9 another
pub late_by_place : map (λ share. come_late share (PutEvent 8 1 (5 ∷ []) ∷ PutEvent 0 0 (7 ∷ []) ∷ [])) (0 ∷ 8 ∷ 16 ∷ 1 ∷ 9 ∷ []) ≡ true ∷ true ∷ false ∷ false ∷ false ∷ []
late_by_place = refl

pub words_refused_by_place : map (λ op. payload_refusal op (PutEvent 8 1 (5 ∷ []) ∷ PutEvent 0 0 (7 ∷ []) ∷ [])) (Put 0 [] ∷ Put 8 (5 ∷ []) ∷ Put 16 [] ∷ Got 8 (5 ∷ []) ∷ Got 8 [] ∷ Got 8 (6 ∷ []) ∷ Got 0 (7 ∷ []) ∷ Got 16 [] ∷ AwaitBarrier ∷ OpenGroup ∷ Reserve 1 ∷ []) ≡ Some NotInside ∷ Some NotInside ∷ None ∷ None ∷ Some NotInside ∷ Some NotInside ∷ Some NotInside ∷ Some NotInside ∷ None ∷ None ∷ None ∷ []
words_refused_by_place = refl
