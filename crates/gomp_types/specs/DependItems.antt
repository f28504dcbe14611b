-- Which items of `depend` clauses depend on which, and when two clauses have the same items. OpenMP API 5.2, section 15.9.5.
use Rattle.std.specs.Prelude.{ℕ, ◌==◌, ◌&&◌, Bool, true, false, nat_eq, List}
use Rattle.std.specs.List.{list_any}
use Rattle.std.specs.Ordering.{on, eq_of_both}
use Rattle.std.specs.Cmp.{IsEquivalence, nat_eq_equiv, on_equiv, and_equiv}
use Rattle.std.specs.Cmp.Lexicographic.{pointwise, lists_equiv}
use Rattle.gomp_types.specs.declared.depend.Dep.{Dep}
use Rattle.gomp_types.specs.declared.depend.DepKind.{DepKind}
use Rattle.gomp_types.specs.declared.depend.DepKind.TheVariants.{DepIn, DepOut, DepInout, DepInoutset, DepMutex}

-- whether an item of the first kind depends on an earlier one of the second kind, on the same address
abbrev pub kind_waits : DepKind → DepKind → Bool
-- in: on out, inout, mutexinoutset and inoutset
kind_waits DepIn DepIn = false
kind_waits DepIn _ = true
-- out and inout: on all
kind_waits DepOut _ = true
kind_waits DepInout _ = true
-- inoutset: on in, out, inout and mutexinoutset
kind_waits DepInoutset DepInoutset = false
kind_waits DepInoutset _ = true
-- mutexinoutset: on in, out, inout and inoutset, and on mutexinoutset (own: the standard lets these run in any order, one at a time)
kind_waits DepMutex _ = true

-- whether an item depends on an earlier one: the addresses are the same, and their kinds depend
abbrev pub item_waits : Dep → Dep → Bool
item_waits new old = new.addr == old.addr && kind_waits new.kind old.kind

-- whether some item of a clause depends on some item of an earlier one
abbrev pub items_wait : List Dep → List Dep → Bool
items_wait new old = list_any (λ item. list_any (item_waits item) old) new

-- a number for each kind
abbrev pub kind_number : DepKind → ℕ
kind_number DepIn = 0
kind_number DepOut = 1
kind_number DepInout = 2
kind_number DepInoutset = 3
kind_number DepMutex = 4

-- whether two items are the same
abbrev pub same_item : Dep → Dep → Bool
same_item = eq_of_both (on (λ (item : Dep). kind_number item.kind) nat_eq) (on (λ (item : Dep). item.addr) nat_eq)

-- and two lists of them, in the same order
abbrev pub same_items : List Dep → List Dep → Bool
same_items = pointwise same_item

-- which is an equivalence
abbrev pub same_items_equiv : IsEquivalence same_items
same_items_equiv = lists_equiv (and_equiv (on_equiv (λ (item : Dep). kind_number item.kind) nat_eq_equiv) (on_equiv (λ (item : Dep). item.addr) nat_eq_equiv))
