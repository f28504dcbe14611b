-- At how many addresses of a clause a test holds.
use Rattle.std.proofs.Common.{◌≡◌, ℕ, ◌+◌, Bool, true, false, List, [], ◌∷◌, refl, ap, ◌∙◌, sym, arith, suc, inl, inr}
use Rattle.std.specs.Prelude.{◌==◌, ◌&&◌, ◌||◌, not, if◌then◌else◌, is_some, Option, Some, None, length, ◌≤◌, nat_lt}
use Rattle.std.specs.List.{list_all}
use Rattle.std.proofs.lemmas.Bool.{cases_Bool}
use Rattle.std.proofs.lemmas.Bool.Decides.{nat_tests}
use Rattle.gomp_types.specs.declared.depend.Dep.{Dep}
use Rattle.gomp_types.proofs.Booleans.{is_equal, same_number, other_number, or_right, or_left, and_left, and_right}
use Rattle.gomp_lines.specs.declared.classes.Class.{Class}
use Rattle.gomp_lines.specs.Classes.{kind_class, joint_with, class_with, class_at}
use Rattle.gomp_depend.specs.Rows.{has_items}
use Rattle.gomp_depend.specs.Books.{names, addresses_where}

-- tests that agree at each address count alike
pub where_same : (one other : ℕ → Bool) (items : List Dep) → ((a : ℕ) → names a items ≡ true → one a ≡ other a) → addresses_where one items ≡ addresses_where other items
where_same one other [] same = refl
where_same one other (item ∷ items) same =
    let rest = where_same one other items (λ a named. same a (or_right (a == item.addr) (names a items) named)) in
    rw (rest, same item.addr (or_left (item.addr == item.addr) (names item.addr items) (same_number item.addr))) refl

-- if one address passes only the first of two tests, that counts one more
pub where_less : (one other : ℕ → Bool) (items : List Dep) (addr : ℕ) → names addr items ≡ true → one addr ≡ true → other addr ≡ false → ((a : ℕ) → (addr == a) ≡ false → one a ≡ other a) →
    addresses_where one items ≡ addresses_where other items + 1
where_less one other [] addr named is isnt same = absurd (cc)
where_less one other (item ∷ items) addr named is isnt same = elim (cases_Bool (addr == item.addr)) [
  | inl here ↦ elim (cases_Bool (names item.addr items)) [
    | inl again ↦
        let later : names addr items ≡ true = rw (is_equal addr item.addr here) again in
        rw again (where_less one other items addr later is isnt same)
    | inr last ↦
        let it = is_equal addr item.addr here in
        let is_here : one item.addr ≡ true = rw (← it) is in
        let isnt_here : other item.addr ≡ false = rw (← it) isnt in
        let rest : addresses_where one items ≡ addresses_where other items = where_same one other items (λ a inside. same a (differs a inside (rw (← it) at last))) in
        rw (last, is_here, isnt_here) (ap (λ n. n + 1) rest)
  ]
  | inr away ↦
      let later : names addr items ≡ true = rw away at named in
      let rest = where_less one other items addr later is isnt same in
      rw (rest, same item.addr away) (by (names item.addr items) (other item.addr) (addresses_where other items))
]
  where
    differs : (a : ℕ) → names a items ≡ true → names addr items ≡ false → (addr == a) ≡ false
    differs a inside out = other_number addr a (λ e. let in_too : names addr items ≡ true = rw e inside in absurd (cc))

    by : (b c : Bool) (n : ℕ) → (if b then n + 1 else if c then n + 1 + 1 else n + 1) ≡ (if b then n else if c then n + 1 else n) + 1
    by true c n = refl
    by false true n = refl
    by false false n = refl

-- an address of a clause passes a test that all pass
holds_at_named : (test : ℕ → Bool) (items : List Dep) (a : ℕ) → names a items ≡ true → list_all (λ (item : Dep). test item.addr) items ≡ true → test a ≡ true
holds_at_named test [] a named all = absurd (cc)
holds_at_named test (item ∷ items) a named all = elim (cases_Bool (a == item.addr)) [
  | inl here ↦ rw (is_equal a item.addr here) (and_left (test item.addr) _ all)
  | inr away ↦ holds_at_named test items a (rw away at named) (and_right (test item.addr) _ all)
]

-- none is counted exactly if each address fails the test
pub none_where : (test : ℕ → Bool) (items : List Dep) → (addresses_where test items == 0) ≡ list_all (λ (item : Dep). not (test item.addr)) items
none_where test [] = refl
none_where test (item ∷ items) = elim (cases_Bool (names item.addr items)) [
  | inl again ↦ rw (again, none_where test items) (both (not (test item.addr)) (list_all (λ (one : Dep). not (test one.addr)) items) (holds_at_named (λ a. not (test a)) items item.addr again))
  | inr last ↦ elim (cases_Bool (test item.addr)) [
    | inl is ↦ rw (last, is) (other_number (addresses_where test items + 1) 0 (λ e. omega (arith, e)))
    | inr isnt ↦ rw (last, isnt) (none_where test items)
  ]
]
  where
    both : (b all : Bool) → (all ≡ true → b ≡ true) → all ≡ (b && all)
    both true all gives = refl
    both false true gives = absurd (let is = gives refl in cc)
    both false false gives = refl

-- no more than there are items
pub where_bound : (test : ℕ → Bool) (items : List Dep) → addresses_where test items ≤ length items
where_bound test [] = omega arith
where_bound test (item ∷ items) =
    let rest = where_bound test items in
    elim (cases_Bool (names item.addr items)) [
      | inl again ↦ rw again (omega (arith, rest))
      | inr last ↦ elim (cases_Bool (test item.addr)) [
        | inl is ↦ rw (last, is) (omega (arith, rest))
        | inr isnt ↦ rw (last, isnt) (omega (arith, rest))
      ]
    ]

-- a clause has a class at each address that it names, and at no other
class_named : (before : Option Class) (a : ℕ) (items : List Dep) → is_some (class_with before a items) ≡ (is_some before || names a items)
class_named before a [] = or_nothing (is_some before)
  where
    or_nothing : (b : Bool) → b ≡ (b || false)
    or_nothing true = refl
    or_nothing false = refl
class_named before a (item ∷ items) = elim (cases_Bool (a == item.addr)) [
  | inl here ↦ rw here (class_named (Some (joint_with before (kind_class item.kind))) a items ∙ sym (or_right (is_some before) true refl))
  | inr away ↦ rw away (class_named before a items)
]

pub class_at_named : (a : ℕ) (items : List Dep) → is_some (class_at a items) ≡ names a items
class_at_named a items = class_named None a items

pub named_has_items : (a : ℕ) (items : List Dep) → names a items ≡ true → has_items items ≡ true
named_has_items a [] named = absurd (cc)
named_has_items a (item ∷ items) named = refl

-- a clause has items if they are more than none
pub some_are_named : (items : List Dep) → nat_lt 0 (length items) ≡ has_items items
some_are_named [] = refl
some_are_named (item ∷ items) = above_none (length items)
  where
    above_none : (n : ℕ) → nat_lt 0 (suc n) ≡ true
    above_none n = grind (arith, nat_tests)
