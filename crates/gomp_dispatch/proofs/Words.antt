-- The words that the board keeps for a share that is not over are those that were put in it.
use Rattle.std.proofs.Common.{◌≡◌, ◌≢◌, ℕ, ◌+◌, ◌*◌, ◌-◌, ◌%◌, ◌/◌, ◌<◌, Bool, true, false, List, [], ◌∷◌, Option, Some, None, refl, ap, ◌∙◌, sym, subst, arith, suc, inl, inr}
use Rattle.std.specs.Prelude.{◌==◌, not, is_some, if◌then◌else◌}
use Rattle.std.proofs.lemmas.Bool.{cases_Bool, cases_lt}
use Rattle.std.proofs.Math.Nat.{div-add-mod}
use Rattle.gomp_types.specs.declared.limits.TheConstants.{OPEN_SHARES}
use Rattle.gomp_types.specs.declared.refusal.Refusal.{Refusal}
use Rattle.gomp_types.specs.declared.refusal.Refusal.TheVariants.{NotInside}
use Rattle.gomp_types.specs.declared.shape.Shape.{Shape}
use Rattle.gomp_events.specs.declared.seen.Seen.{Seen}
use Rattle.gomp_events.specs.declared.event.Event.{Event}
use Rattle.gomp_events.specs.declared.event.Event.TheVariants.{Enter, Put}
use Rattle.gomp_types.specs.Deals.{schedule}
use Rattle.gomp_events.specs.Events.{shape_at, is_over, payload_at}
use Rattle.gomp_events.specs.Laws.{Always}
use Rattle.gomp_types.specs.Least.{lesser, least}
use Rattle.gomp_types.proofs.Booleans.{which_branch, is_equal, unequal_numbers, not_both, some_of}
use Rattle.gomp_shares.specs.Rules.{ShareRule}
use Rattle.gomp_shares.specs.Singles.{is_executor, put_tests}
use Rattle.gomp_shares.proofs.Laws.{share_of_a_member_is_open, shares_eight_before_are_over}
use Rattle.gomp_shares.proofs.SharesOver.{over_stays}
use Rattle.gomp_board.specs.Payloads.{newest_put, words_of}
use Rattle.gomp_dispatch.specs.Answers.{PutsInside}

-- An event that puts none

abbrev PutsNone : Event → Type 0
PutsNone (Put share m words) = ⊥
PutsNone _ = Unit {0}

-- what is open was so
open_before : (members i : ℕ) (event : Event) (h : List Event) → is_over members i (event ∷ h) ≡ false → is_over members i h ≡ false
open_before members i event h open_ =
    elim (cases_Bool (is_over members i h)) [
      | inl over ↦ absurd (not_both (is_over members i (event ∷ h)) (over_stays members i event h over) open_)
      | inr was ↦ was
    ]

some_either : {A : Type 0} (b : Bool) (x : A) (y : Option A) → is_some y ≡ true → is_some (if b then Some x else y) ≡ true
some_either true x y e = refl
some_either false x y e = e

-- what was entered stays so
entered_stays : (i : ℕ) (event : Event) (h : List Event) → is_some (shape_at i h) ≡ true → is_some (shape_at i (event ∷ h)) ≡ true
entered_stays i (Enter share m shape) h e = some_either (share == i) shape (shape_at i h) e
entered_stays i _ h e = e

payload_stays : (i : ℕ) (event : Event) (h : List Event) → PutsNone event → payload_at i (event ∷ h) ≡ payload_at i h
payload_stays i (Put share m words) h none = absurd none
payload_stays i _ h none = refl

newest_put_stays : (rest : ℕ) (event : Event) (h : List Event) → PutsNone event → newest_put rest (event ∷ h) ≡ newest_put rest h
newest_put_stays rest (Put share m words) h none = absurd none
newest_put_stays rest _ h none = refl

-- what is kept of a share that is not over, and words are put only in a share that was entered
record KeepsWords (members : ℕ) (h : List Event) : Type 0 where
  pub words : (i : ℕ) → is_over members i h ≡ false → words_of i (newest_put (i % OPEN_SHARES) h) ≡ payload_at i h
  pub entered : (i : ℕ) (words : List ℕ) → payload_at i h ≡ Some words → is_some (shape_at i h) ≡ true

words_kept_beside : (members : ℕ) (event : Event) (h : List Event) → PutsNone event → KeepsWords members h → KeepsWords members (event ∷ h)
words_kept_beside members event h none st = record {
  words = λ i open_. ap (words_of i) (newest_put_stays (i % OPEN_SHARES) event h none) ∙ st.words i (open_before members i event h open_) ∙ sym (payload_stays i event h none);
  entered = λ i words at. entered_stays i event h (st.entered i words (sym (payload_stays i event h none) ∙ at));
}

-- Words that are put

-- two numbers with one place are a multiple of eight apart
eights_apart : (i j : ℕ) → j < i → i % OPEN_SHARES ≡ j % OPEN_SHARES → (k : ℕ) × (i ≡ OPEN_SHARES * suc k + j)
eights_apart i j lt same = (i / 8 - j / 8 - 1, let a = div-add-mod i OPEN_SHARES in let b = div-add-mod j OPEN_SHARES in omega arith)

not_some : {A : Type 0} (x : Option A) → ((y : A) → x ≡ Some y → ⊥) → x ≡ None
not_some None never = refl
not_some (Some y) never = absurd (never y refl)

-- no words are kept of another share that is not over
none_of_another : (members i j : ℕ) (shape : Shape) (h : List Event) → Always (ShareRule (schedule members) members) h → KeepsWords members h →
    shape_at i h ≡ Some shape → is_over members i h ≡ false → is_over members j h ≡ false → j ≢ i → i % OPEN_SHARES ≡ j % OPEN_SHARES → payload_at j h ≡ None
none_of_another members i j shape h rule st at open_ still other same =
    not_some (payload_at j h) (λ words is. elim (cases_lt j i) [
      | inl below ↦ let far = eights_apart i j below same in not_both (is_over members j h) (shares_eight_before_are_over members i j far.0 shape h rule at far.1) still
      | inr past ↦
          let far = eights_apart j i (omega arith) (sym same) in
          let was = some_of (shape_at j h) (st.entered j words is) in
          not_both (is_over members i h) (shares_eight_before_are_over members j i far.0 was.0 h rule was.1 far.1) open_
    ])

words_kept_at_put : (members i m : ℕ) (shape : Shape) (words : List ℕ) (h : List Event) → Always (ShareRule (schedule members) members) h → KeepsWords members h → shape_at i h ≡ Some shape → is_over members i h ≡ false → KeepsWords members (Put i m words ∷ h)
words_kept_at_put members i m shape words h rule st at open_ = record {
  words = λ j still. elim (cases_Bool (i % OPEN_SHARES == j % OPEN_SHARES)) [
    | inl near ↦ elim (cases_Bool (i == j)) [
      | inl one ↦ rw (near, one) refl
      | inr two ↦
          let other : j ≢ i = λ same. unequal_numbers i j two (sym same) in
          rw (near, two) (sym (none_of_another members i j shape h rule st at open_ still other (is_equal (i % OPEN_SHARES) (j % OPEN_SHARES) near)))
    ]
    | inr far ↦
        let two : (i == j) ≡ false = elim (cases_Bool (i == j)) [
          | inl one ↦ absurd (unequal_numbers (i % OPEN_SHARES) (j % OPEN_SHARES) far (ap (λ (n : ℕ). n % OPEN_SHARES) (is_equal i j one)))
          | inr two ↦ two
        ] in
        rw (far, two) (st.words j still)
  ];
  entered = λ j others is. elim (which_branch (i == j) (Some words) (payload_at j h) (Some others) is) [
    | inl e ↦ subst (λ (k : ℕ). is_some (shape_at k h) ≡ true) (is_equal i j e.0) (ap is_some at)
    | inr e ↦ st.entered j others e.1
  ];
}

-- At every list

words_kept_by_rule : (members : ℕ) (event : Event) (h : List Event) → Always (ShareRule (schedule members) members) h → PutsInside event h → KeepsWords members h → KeepsWords members (event ∷ h)
words_kept_by_rule members (Put share m words) h rule inside st =
    let there = share_of_a_member_is_open members m share inside.0 h rule inside.1 in
    words_kept_at_put members share m inside.0 words h rule st there.0 there.1
words_kept_by_rule members _ h rule inside st = words_kept_beside members _ h tt st

keeps_words : (members : ℕ) (h : List Event) → Always (ShareRule (schedule members) members) h → Always PutsInside h → KeepsWords members h
keeps_words members [] rule puts = record { words = λ i open_. refl; entered = λ i words e. cc }
keeps_words members (event ∷ h) rule puts = words_kept_by_rule members event h rule.1 puts.0 (keeps_words members h rule.1 puts.1)

pub kept_words_are_put : (members i : ℕ) (h : List Event) → Always (ShareRule (schedule members) members) h → Always PutsInside h → is_over members i h ≡ false → payload_at i h ≡ words_of i (newest_put (i % OPEN_SHARES) h)
kept_words_are_put members i h rule puts open_ = sym ((keeps_words members h rule puts).words i open_)

-- The share that the member is in

not_held : (b : Bool) (one : Refusal) → least ((b, one) ∷ []) ≡ None → b ≡ true → ⊥
not_held b one none held = let some : lesser (Some one) None ≡ None = rw held at none in cc

-- a member that is in no share executes no single
pub needs_share : (seen : Seen) → least (put_tests seen) ≡ None → seen.current ≡ None → ⊥
needs_share seen none outside = not_held (not (is_executor seen)) NotInside none (rw outside refl)
