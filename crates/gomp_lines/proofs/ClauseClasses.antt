-- One clause waits for another exactly if at some address their classes do not share it.
use Rattle.std.proofs.Common.{◌≡◌, ℕ, Bool, true, false, List, [], ◌∷◌, Option, Some, None, refl, ap, ◌∙◌, sym, inl, inr}
use Rattle.std.specs.Prelude.{◌&&◌, ◌||◌, ◌==◌, not}
use Rattle.std.specs.List.{list_any}
use Rattle.std.proofs.lemmas.Bool.{cases_Bool}
use Rattle.gomp_types.specs.declared.depend.Dep.{Dep}
use Rattle.gomp_types.specs.declared.depend.DepKind.{DepKind}
use Rattle.gomp_types.specs.declared.depend.DepKind.TheVariants.{DepIn, DepOut, DepInout, DepInoutset, DepMutex}
use Rattle.gomp_types.specs.DependItems.{kind_waits, item_waits, items_wait}
use Rattle.gomp_types.proofs.Booleans.{same_number, is_equal, and_false}
use Rattle.gomp_lines.specs.declared.classes.Class.{Class}
use Rattle.gomp_lines.specs.declared.classes.Class.TheVariants.{Readers, Set, Alone}
use Rattle.gomp_lines.specs.Classes.{kind_class, shares, joint, joint_with, class_with, class_at, waits_in_line}
use Rattle.gomp_lines.proofs.Each.{Each, each_by, each_map, each_with_itself, each_fails, none_passes, any_same}

-- kinds wait exactly if their classes do not share the address
pub kinds_wait_by_classes : (new old : DepKind) → kind_waits new old ≡ not (shares (kind_class new) (kind_class old))
kinds_wait_by_classes DepIn DepIn = refl
kinds_wait_by_classes DepIn DepOut = refl
kinds_wait_by_classes DepIn DepInout = refl
kinds_wait_by_classes DepIn DepInoutset = refl
kinds_wait_by_classes DepIn DepMutex = refl
kinds_wait_by_classes DepInoutset DepIn = refl
kinds_wait_by_classes DepInoutset DepOut = refl
kinds_wait_by_classes DepInoutset DepInout = refl
kinds_wait_by_classes DepInoutset DepInoutset = refl
kinds_wait_by_classes DepInoutset DepMutex = refl
kinds_wait_by_classes DepOut old = refl
kinds_wait_by_classes DepInout old = refl
kinds_wait_by_classes DepMutex old = refl

pub shares_both_ways : (one other : Class) → shares one other ≡ shares other one
shares_both_ways Readers Readers = refl
shares_both_ways Readers Set = refl
shares_both_ways Readers Alone = refl
shares_both_ways Set Readers = refl
shares_both_ways Set Set = refl
shares_both_ways Set Alone = refl
shares_both_ways Alone Readers = refl
shares_both_ways Alone Set = refl
shares_both_ways Alone Alone = refl

pub waits_both_ways : (one other : Option Class) → waits_in_line one other ≡ waits_in_line other one
waits_both_ways None None = refl
waits_both_ways None (Some other) = refl
waits_both_ways (Some one) None = refl
waits_both_ways (Some one) (Some other) = ap not (shares_both_ways one other)

-- no task shares an address with two that do not share it
pub shares_with_one : (one other class : Class) → shares one other ≡ false → shares class one ≡ true → shares class other ≡ false
shares_with_one Readers Readers class e is = absurd (cc)
shares_with_one Set Set class e is = absurd (cc)
shares_with_one Readers Set Readers e is = refl
shares_with_one Readers Set Set e is = absurd (cc)
shares_with_one Readers Set Alone e is = refl
shares_with_one Readers Alone Readers e is = refl
shares_with_one Readers Alone Set e is = refl
shares_with_one Readers Alone Alone e is = refl
shares_with_one Set Readers Readers e is = absurd (cc)
shares_with_one Set Readers Set e is = refl
shares_with_one Set Readers Alone e is = refl
shares_with_one Set Alone Readers e is = refl
shares_with_one Set Alone Set e is = refl
shares_with_one Set Alone Alone e is = refl
shares_with_one Alone other Readers e is = absurd (cc)
shares_with_one Alone other Set e is = absurd (cc)
shares_with_one Alone other Alone e is = refl

-- tasks that share an address have one class there
pub sharing_is_same : (one other : Class) → shares one other ≡ true → one ≡ other
sharing_is_same Readers Readers e = refl
sharing_is_same Readers Set e = absurd (cc)
sharing_is_same Readers Alone e = absurd (cc)
sharing_is_same Set Readers e = absurd (cc)
sharing_is_same Set Set e = refl
sharing_is_same Set Alone e = absurd (cc)
sharing_is_same Alone other e = absurd (cc)

-- a task with items of two classes waits if one with either does
joint_waits : (one class other : Class) → not (shares (joint one class) other) ≡ (not (shares one other) || not (shares class other))
joint_waits Readers Readers Readers = refl
joint_waits Readers Readers Set = refl
joint_waits Readers Readers Alone = refl
joint_waits Readers Set Readers = refl
joint_waits Readers Set Set = refl
joint_waits Readers Set Alone = refl
joint_waits Readers Alone Readers = refl
joint_waits Readers Alone Set = refl
joint_waits Readers Alone Alone = refl
joint_waits Set Readers Readers = refl
joint_waits Set Readers Set = refl
joint_waits Set Readers Alone = refl
joint_waits Set Set Readers = refl
joint_waits Set Set Set = refl
joint_waits Set Set Alone = refl
joint_waits Set Alone Readers = refl
joint_waits Set Alone Set = refl
joint_waits Set Alone Alone = refl
joint_waits Alone class other = refl

joint_with_waits : (before : Option Class) (class other : Class) → waits_in_line (Some (joint_with before class)) (Some other) ≡ (waits_in_line before (Some other) || not (shares class other))
joint_with_waits None class other = refl
joint_with_waits (Some one) class other = joint_waits one class other

or_regroups : (a b c : Bool) → ((a || b) || c) ≡ (a || (b || c))
or_regroups true b c = refl
or_regroups false b c = refl

-- a clause waits at an address if one of its items there does
class_with_waits : (before : Option Class) (a : ℕ) (items : List Dep) (other : Class) →
    waits_in_line (class_with before a items) (Some other) ≡ (waits_in_line before (Some other) || list_any (λ (item : Dep). a == item.addr && not (shares (kind_class item.kind) other)) items)
class_with_waits before a [] other = by (waits_in_line before (Some other))
  where
    by : (b : Bool) → b ≡ (b || false)
    by true = refl
    by false = refl
class_with_waits before a (item ∷ items) other = elim (cases_Bool (a == item.addr)) [
  | inl there ↦
      rw there (class_with_waits (Some (joint_with before (kind_class item.kind))) a items other
      ∙ ap (λ b. b || list_any (λ (item : Dep). a == item.addr && not (shares (kind_class item.kind) other)) items) (joint_with_waits before (kind_class item.kind) other)
      ∙ or_regroups (waits_in_line before (Some other)) (not (shares (kind_class item.kind) other)) _)
  | inr away ↦ rw away (class_with_waits before a items other)
]

-- so is it against what stands there already
class_at_waits : (a : ℕ) (items : List Dep) (other : Option Class) → waits_in_line (class_at a items) other ≡ list_any (λ (item : Dep). a == item.addr && waits_in_line (Some (kind_class item.kind)) other) items
class_at_waits a items (Some other) = class_with_waits None a items other
class_at_waits a items None = waits_both_ways (class_at a items) None ∙ sym (none_passes _ items (each_by _ (λ item. by (a == item.addr)) items))
  where
    by : (b : Bool) → (b && false) ≡ false
    by true = refl
    by false = refl

-- an item waits for a clause
item_waits_there : (item : Dep) (old : List Dep) → list_any (item_waits item) old ≡ waits_in_line (Some (kind_class item.kind)) (class_at item.addr old)
item_waits_there item old =
    any_same (item_waits item) (λ (earlier : Dep). item.addr == earlier.addr && waits_in_line (Some (kind_class earlier.kind)) (Some (kind_class item.kind)))
    (λ earlier. ap (λ b. item.addr == earlier.addr && b) (kinds_wait_by_classes item.kind earlier.kind ∙ ap not (shares_both_ways (kind_class item.kind) (kind_class earlier.kind)))) old
    ∙ sym (class_at_waits item.addr old (Some (kind_class item.kind))) ∙ waits_both_ways (class_at item.addr old) (Some (kind_class item.kind))

-- to find an element is to find one with the key of some element
any_by_keys : {X : Type 0} (key : X → ℕ) (test : X → Bool) → (xs : List X) → list_any test xs ≡ list_any (λ x. list_any (λ y. key x == key y && test y) xs) xs
any_by_keys {X} key test xs = elim (cases_Bool (list_any (λ x. list_any (λ y. key x == key y && test y) xs) xs)) [
  | inl some ↦ elim (cases_Bool (list_any test xs)) [
    | inl is ↦ is ∙ sym some
    | inr none ↦
        let fails : Each (λ (y : X). test y ≡ false) xs = each_fails test xs none in
        none ∙ sym (none_passes _ xs (each_by _ (λ x. none_passes (λ y. key x == key y && test y) xs (each_map (λ (y : X). test y ≡ false) _ (λ y no. and_false (key x == key y) (test y) no) xs fails)) xs))
  ]
  | inr none ↦
      let each : Each (λ (x : X). Each (λ (y : X). (key x == key y && test y) ≡ false) xs) xs = each_map _ _ (λ x no. each_fails (λ y. key x == key y && test y) xs no) xs (each_fails _ xs none) in
      none_passes test xs (each_map (λ (x : X). (key x == key x && test x) ≡ false) (λ x. test x ≡ false) (λ x no. rw (same_number (key x)) at no) xs (each_with_itself (λ (x y : X). (key x == key y && test y) ≡ false) xs each)) ∙ sym none
]

-- one clause waits for another exactly if at some address of it the classes do not share
pub clauses_wait_by_classes : (new old : List Dep) → items_wait new old ≡ list_any (λ (item : Dep). waits_in_line (class_at item.addr new) (class_at item.addr old)) new
clauses_wait_by_classes new old =
    any_same (λ (item : Dep). list_any (item_waits item) old) (λ (item : Dep). waits_in_line (Some (kind_class item.kind)) (class_at item.addr old)) (λ item. item_waits_there item old) new
    ∙ any_by_keys (λ (item : Dep). item.addr) (λ (item : Dep). waits_in_line (Some (kind_class item.kind)) (class_at item.addr old)) new
    ∙ sym (any_same (λ (item : Dep). waits_in_line (class_at item.addr new) (class_at item.addr old)) _
    (λ item. class_at_waits item.addr new (class_at item.addr old) ∙ any_same _ _ (λ (other : Dep). by item.addr other.addr (kind_class other.kind)) new) new)
  where
    by : (a b : ℕ) (class : Class) → (a == b && waits_in_line (Some class) (class_at a old)) ≡ (a == b && waits_in_line (Some class) (class_at b old))
    by a b class = elim (cases_Bool (a == b)) [
      | inl same ↦ rw (is_equal a b same) refl
      | inr other ↦ rw other refl
    ]
