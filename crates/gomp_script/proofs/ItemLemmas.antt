-- The items of a line, one by one.
use Rattle.std.proofs.Common.{◌≡◌, ℕ, List, [], ◌∷◌, ◌++◌, Some, Result, Ok, Err, refl, ap, sym, append_assoc, arith}
use Rattle.gomp_types.specs.declared.depend.Dep.{Dep}
use Rattle.gomp_types.specs.declared.depend.DepKind.{DepKind}
use Rattle.gomp_script.specs.declared.parse.Why.{Why}
use Rattle.gomp_script.specs.StepText.{behind_items, first_item, items_of, unsigned_of, with_item, without_value}

-- an item stands in front
pub item_behind : (words : List (List ℕ)) (kind : DepKind) (addr : List ℕ) (later : List (List ℕ)) → first_item words ≡ Ok (Some (kind, addr, later)) → behind_items words ≡ behind_items later
item_behind [] kind addr later item = absurd (cc)
item_behind (word ∷ []) kind addr later item = grind arith
item_behind (word ∷ place ∷ words) kind addr later item = grind arith

pub item_kept : (words : List (List ℕ)) (kind : DepKind) (addr : List ℕ) (later : List (List ℕ)) → first_item words ≡ Ok (Some (kind, addr, later)) → items_of words ≡ with_item kind (unsigned_of addr) (items_of later)
item_kept [] kind addr later item = absurd (cc)
item_kept (word ∷ []) kind addr later item = grind arith
item_kept (word ∷ place ∷ words) kind addr later item = grind arith

-- these items, and those that are read later
abbrev pub with_items : List Dep → Result (List Dep) Why → Result (List Dep) Why
with_items items (Ok later) = Ok (items ++ later)
with_items items (Err why) = Err why

-- an item is kept last
pub item_last : (items : List Dep) (kind : DepKind) (addr : ℕ) (later : Result (List Dep) Why) → with_items items (with_item kind (Ok addr) later) ≡ with_items (items ++ record { kind = kind; addr = addr } ∷ []) later
item_last items kind addr (Ok later) = ap (λ (all : List Dep). Ok all) (sym (append_assoc items (record { kind = kind; addr = addr } ∷ []) later))
item_last items kind addr (Err why) = refl

-- a good address changes no fault
pub address_good : (kind : DepKind) (addr : List ℕ) (number : ℕ) (later : Result (List Dep) Why) → unsigned_of addr ≡ Ok number → without_value (with_item kind (unsigned_of addr) later) ≡ without_value later
address_good kind addr number (Ok later) good = rw good refl
address_good kind addr number (Err why) good = rw good refl

-- a fault of the items is that of their list
pub fault_of_items : (read : Result (List Dep) Why) (why : Why) → without_value read ≡ Err why → read ≡ Err why
fault_of_items (Ok items) why fault = absurd (cc)
fault_of_items (Err other) why fault =
    let same : other ≡ why = cc in
    ap (λ (told : Why). Err told) same
