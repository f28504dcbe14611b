-- How many members of a team pass a test.
use Rattle.std.proofs.Common.{◌≡◌, ◌≢◌, ℕ, zero, suc, ◌+◌, ◌<◌, ◌≤◌, Bool, true, false, refl, ap, sym, arith, inl, inr}
use Rattle.std.proofs.lemmas.Bool.{cases_lt}
use Rattle.std.proofs.lemmas.Bool.Decides.{eqb_tells}
use Rattle.gomp_types.proofs.Booleans.{not_both}
use Rattle.gomp_gate.specs.Shapes.{bit_of}
use Rattle.gomp_slots.specs.Words.{count_members}

pub bit_most : (b : Bool) → bit_of b ≤ 1
bit_most true = omega arith
bit_most false = omega arith

pub count_most : (n : ℕ) (f : ℕ → Bool) → count_members n f ≤ n
count_most zero f = omega arith
count_most (suc n) f = let a = count_most n f in let b = bit_most (f n) in omega arith

count_alike : (n : ℕ) (f g : ℕ → Bool) → ((k : ℕ) → k < n → g k ≡ f k) → count_members n g ≡ count_members n f
count_alike zero f g same = refl
count_alike (suc n) f g same = let a = count_alike n f g (λ k lt. same k (omega arith)) in let b : bit_of (g n) ≡ bit_of (f n) = ap bit_of (same n (omega arith)) in omega arith

-- one member more passes it
pub count_one_more : (n m : ℕ) (f g : ℕ → Bool) → m < n → f m ≡ false → g m ≡ true → ((k : ℕ) → k ≢ m → g k ≡ f k) → count_members n g ≡ count_members n f + 1
count_one_more zero m f g lt was now same = absurd (omega arith)
count_one_more (suc n) m f g lt was now same = elim (eqb_tells m n) [
  | inl e ↦
      let a = count_alike n f g (λ k below. same k (λ is. let d = e.1 in omega arith)) in
      let was_n : f n ≡ false = rw (← e.1) was in
      let now_n : g n ≡ true = rw (← e.1) now in
      let w : bit_of (f n) ≡ 0 = ap bit_of was_n in
      let v : bit_of (g n) ≡ 1 = ap bit_of now_n in
      omega arith
  | inr e ↦
      let differ = e.1 in
      let a = count_one_more n m f g (let d = e.1 in omega arith) was now same in
      let b : bit_of (g n) ≡ bit_of (f n) = ap bit_of (same n (λ is. differ (sym is))) in
      omega arith
]

-- nobody passes it
pub count_none : (n : ℕ) (f : ℕ → Bool) → ((k : ℕ) → k < n → f k ≡ false) → count_members n f ≡ 0
count_none zero f none = refl
count_none (suc n) f none = let a = count_none n f (λ k lt. none k (omega arith)) in let b : bit_of (f n) ≡ 0 = ap bit_of (none n (omega arith)) in omega arith

-- or somebody does
some_last : (n : ℕ) (f : ℕ → Bool) (b : Bool) → f n ≡ b → 0 < count_members n f + bit_of (f n) → (0 < count_members n f → (m : ℕ) × (m < n) × (f m ≡ true)) → (m : ℕ) × (m < suc n) × (f m ≡ true)
some_last n f true e any before = (n, (omega arith), e)
some_last n f false e any before =
    let z : bit_of (f n) ≡ 0 = ap bit_of e in
    let r = before (omega arith) in
    let lt = r.1 in
    (r.0, (omega arith), r.2)

pub count_some : (n : ℕ) (f : ℕ → Bool) → 0 < count_members n f → (m : ℕ) × (m < n) × (f m ≡ true)
count_some zero f any = absurd (omega arith)
count_some (suc n) f any = some_last n f (f n) refl any (λ more. count_some n f more)

-- all members pass it, or one does not
all_last : (n : ℕ) (f : ℕ → Bool) (k : ℕ) (b : Bool) → f n ≡ b → count_members n f + bit_of (f n) ≡ suc n → (count_members n f ≡ n → k < n → f k ≡ true) → k < suc n → f k ≡ true
all_last n f k true e all before lt = elim (eqb_tells k n) [
  | inl same ↦ rw same.1 e
  | inr other ↦ let one : bit_of (f n) ≡ 1 = ap bit_of e in before (omega arith) (let d = other.1 in omega arith)
]
all_last n f k false e all before lt = let none : bit_of (f n) ≡ 0 = ap bit_of e in let most = count_most n f in absurd (omega arith)

pub count_all : (n : ℕ) (f : ℕ → Bool) → count_members n f ≡ n → (k : ℕ) → k < n → f k ≡ true
count_all zero f all k lt = absurd (omega arith)
count_all (suc n) f all k lt = all_last n f k (f n) refl all (λ same below. count_all n f same k below) lt

pub count_every : (n : ℕ) (f : ℕ → Bool) → ((k : ℕ) → k < n → f k ≡ true) → count_members n f ≡ n
count_every zero f all = refl
count_every (suc n) f all =
    let one : bit_of (f n) ≡ 1 = ap bit_of (all n (omega arith)) in
    let before = count_every n f (λ k lt. all k (omega arith)) in
    omega arith

-- if fewer pass it than there are, and one more would, there is room
pub count_room : (n m : ℕ) (f : ℕ → Bool) → m < n → f m ≡ false → count_members n f + 1 ≤ n
count_room n m f lt off = elim (cases_lt (count_members n f) n) [
  | inl below ↦ omega arith
  | inr past ↦ let most = count_most n f in let all : f m ≡ true = count_all n f (omega arith) m lt in absurd (not_both (f m) all off)
]
