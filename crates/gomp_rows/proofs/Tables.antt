-- What the rows of a table are, after each change.
use Rattle.std.proofs.Common.{◌≡◌, ◌≢◌, ℕ, zero, suc, ◌+◌, ◌-◌, ◌<◌, ◌≤◌, List, [], ◌∷◌, ◌++◌, length, get_or, set, ◌⊎◌, drop, add-one, Option, Some, None, refl, ap, sym, ◌∙◌, arith, inl, inr, cond, is_some}
use Rattle.std.specs.Prelude.{map, min, replicate, IsSome}
use Rattle.std.proofs.Math.ListN.{get_or-map}
use Rattle.std.proofs.Math.Seq.{get_or-append_seam}
use Rattle.std.proofs.lemmas.Bool.{cases_eq, cases_lt}
use Rattle.std.proofs.lemmas.List.{get_or-set_same, get_or-set_other, get_or_past, get_or_append_left, get_or-append_right, get_or-replicate, length-set, length-append, length-replicate, replicate-append-replicate, length-map, append_assoc, map-append, map-set, set-get_or, set-append_right, get_or-drop, length-drop}
use Rattle.std.proofs.lemmas.List.Sums.{sum_by-set}
use Rattle.slab.specs.Slab.{Slab, get, slab_len, ContainsKey, with_value, Updates}
use Rattle.slab.proofs.SlabLemmas.{Updates-with_value, ContainsKey-within}
use Rattle.gomp_rows.specs.declared.rows.TheConstants.{MAX_ROWS}
use Rattle.gomp_rows.specs.Rows.{RowsView, row_no, HasRow, with_row}
use Rattle.gomp_rows.specs.Table.{all_keys, key_at, without_key, kept, IsTable, StartsDead, IsFront}

-- Lists of keys

-- two maps of a list whose functions agree on it
agree_on : {Y : Type 0} (f g : ℕ → Y) (xs : List ℕ) → ((j : ℕ) → j < length xs → f (get_or xs j 0) ≡ g (get_or xs j 0)) → map f xs ≡ map g xs
agree_on f g [] same = refl
agree_on f g (x ∷ xs) same =
    let first : f x ≡ g x = same 0 (omega arith) in
    let rest : map f xs ≡ map g xs = agree_on f g xs (λ j within. same (suc j) (omega arith)) in
    cc

-- and whose functions agree at all places but one
agree_elsewhere : {Y : Type 0} (f g : ℕ → Y) (xs : List ℕ) (k : ℕ) (v : Y) → ((j : ℕ) → j ≢ k → f (get_or xs j 0) ≡ g (get_or xs j 0)) → set (map f xs) k v ≡ set (map g xs) k v
agree_elsewhere f g [] k v same = refl
agree_elsewhere f g (x ∷ xs) zero v same =
    let rest : map f xs ≡ map g xs = agree_on f g xs (λ j within. same (suc j) (λ e. absurd (omega arith))) in
    cc
agree_elsewhere f g (x ∷ xs) (suc k) v same =
    let first : f x ≡ g x = same 0 (λ e. absurd (omega arith)) in
    let rest : set (map f xs) k v ≡ set (map g xs) k v = agree_elsewhere f g xs k v (λ j other. same (suc j) (λ e. other (omega (arith, e)))) in
    cc

pub length-all_keys : (base : ℕ) (keys : List ℕ) → length (all_keys base keys) ≡ base + length keys
length-all_keys base keys = length-append (replicate base 0) keys ∙ ap (λ n. n + length keys) (length-replicate base 0)

-- the lowest numbers have none
pub key_below : (base number : ℕ) (keys : List ℕ) → number ≤ base → key_at (all_keys base keys) number ≡ 0
key_below base zero keys low = refl
key_below base (suc place) keys low =
    let long : length (replicate {A = ℕ} base 0) ≡ base = length-replicate base 0 in
    get_or_append_left (replicate base 0) keys 0 place (omega (arith, long)) ∙ get_or-replicate base place 0 0 (omega arith)

-- those of the others are stored
pub key_above : (base number : ℕ) (keys : List ℕ) → base < number → key_at (all_keys base keys) number ≡ get_or keys (number - base - 1) 0
key_above base zero keys high = absurd (omega arith)
key_above base (suc place) keys high =
    let at : suc place - base - 1 ≡ place - base = omega arith in
    rw at (get_or-append_right (replicate base 0) keys base place 0 (length-replicate base 0) (omega arith))

-- a number that has one is above the lowest, and its key is stored
pub key_stored : (base number : ℕ) (keys : List ℕ) → 0 < key_at (all_keys base keys) number → (base < number) × (number - base - 1 < length keys)
key_stored base number keys some =
    let high : base < number = elim (cases_lt base number) [
      | inl lt ↦ lt
      | inr ge ↦ let none = key_below base number keys ge in absurd (omega (arith, some, none))
    ] in
    let at = key_above base number keys high in (
      high,
      elim (cases_lt (number - base - 1) (length keys)) [
        | inl lt ↦ lt
        | inr ge ↦ let none = get_or_past keys (number - base - 1) 0 ge in absurd (omega (arith, some, at, none))
      ],
    )

-- The keys at the front

-- a key that is put in behind leaves the front
pub front_pushed : (dead : ℕ) (keys : List ℕ) (key : ℕ) → IsFront dead keys → IsFront dead (keys ++ suc key ∷ [])
front_pushed dead keys key front =
    let long = length-append keys (suc key ∷ []) in (
      (
        omega (arith, long, front.0.0),
        λ place below. get_or_append_left keys (suc key ∷ []) 0 place (omega (arith, below, front.0.0)) ∙ front.0.1 place below,
      ),
      λ more. elim (cases_lt dead (length keys)) [
        | inl lt ↦ let same = get_or_append_left keys (suc key ∷ []) 0 dead lt in let some = front.1 lt in omega (arith, same, some)
        | inr ge ↦
            let last : get_or (keys ++ suc key ∷ []) (length keys) 0 ≡ suc key = get_or-append_seam keys (suc key) [] 0 in
            let here : dead ≡ length keys = omega (arith, ge, front.0.0) in
            rw here (omega (arith, last))
      ],
    )

-- some of the first keys are taken out
pub front_dropped : (dead dropped : ℕ) (keys : List ℕ) → IsFront dead keys → dropped ≤ dead → IsFront (dead - dropped) (drop dropped keys)
front_dropped dead dropped keys front few =
    let long = length-drop dropped keys in (
      (
        omega (arith, long, front.0.0, few),
        λ place below. get_or-drop dropped keys place 0 ∙ front.0.1 (dropped + place) (omega (arith, below, few)),
      ),
      λ more.
          let at : dropped + (dead - dropped) ≡ dead = omega (arith, few) in
          let same = get_or-drop dropped keys (dead - dropped) 0 ∙ ap (λ (i : ℕ). get_or keys i 0) at in
          let some = front.1 (omega (arith, more, long, few)) in
          omega (arith, same, some),
    )

-- the keys of all numbers stay the same
pub keys_dropped : (base dead dropped : ℕ) (keys : List ℕ) → StartsDead dead keys → dropped ≤ dead → all_keys (base + dropped) (drop dropped keys) ≡ all_keys base keys
keys_dropped base dead dropped keys front few =
    ap (λ (zeros : List ℕ). zeros ++ drop dropped keys) (sym (replicate-append-replicate base dropped 0))
    ∙ append_assoc (replicate base 0) (replicate dropped 0) (drop dropped keys)
    ∙ ap (λ (rest : List ℕ). replicate base 0 ++ rest) (zeros_first dropped keys (omega (arith, few, front.0)) (λ place below. front.1 place (omega (arith, below, few))))
  where
    zeros_first : (count : ℕ) (xs : List ℕ) → count ≤ length xs → ((place : ℕ) → place < count → get_or xs place 0 ≡ 0) → replicate count 0 ++ drop count xs ≡ xs
    zeros_first zero xs within zeros = refl
    zeros_first (suc count) [] within zeros = absurd (omega (arith, within))
    zeros_first (suc count) (x ∷ xs) within zeros =
        let first : x ≡ 0 = zeros 0 (omega arith) in
        let rest : replicate count 0 ++ drop count xs ≡ xs = zeros_first count xs (omega (arith, within)) (λ place below. zeros (suc place) (omega (arith, below))) in
        cc

-- a number that is stored loses its key
pub key_taken : (base number : ℕ) (keys : List ℕ) → base < number → all_keys base (set keys (number - base - 1) 0) ≡ without_key (all_keys base keys) number
key_taken base zero keys high = absurd (omega arith)
key_taken base (suc place) keys high =
    let at : suc place - base - 1 ≡ place - base = omega arith in
    rw at (sym (set-append_right (replicate base 0) keys base place 0 (length-replicate base 0) (omega arith)))

-- each place of the longer list is one of the list, or the last
new_place : (all : List ℕ) (place key other : ℕ) → get_or (all ++ suc key ∷ []) place 0 ≡ suc other → (place < length all) × (get_or all place 0 ≡ suc other) ⊎ (place ≡ length all) × (other ≡ key)
new_place all place key other at = elim (cases_lt place (length all)) [
  | inl lt ↦ inl (lt, sym (get_or_append_left all (suc key ∷ []) 0 place lt) ∙ at)
  | inr ge ↦ inr (by (place - length all) ge refl (sym (get_or-append_right all (suc key ∷ []) (length all) place 0 refl ge) ∙ at))
]
  where
    by : (x : ℕ) → length all ≤ place → place - length all ≡ x → get_or (suc key ∷ []) x 0 ≡ suc other → (place ≡ length all) × (other ≡ key)
    by zero ge e found = (omega (arith, e, ge), let same : suc key ≡ suc other = found in omega (arith, same))
    by (suc x) ge e found = absurd (let none : get_or {A = ℕ} [] x 0 ≡ 0 = get_or_past [] x 0 (omega arith) in omega (arith, none, found))

-- the key of a number with a row
key_before : (all : List ℕ) (number key : ℕ) → key ≡ key_at all number → 0 < key → key_at all number ≡ suc (key - 1)
key_before all number key is some = omega (arith, is, some)

module _ {T : Type 0} where
  -- Reading

  -- the row under a number
  pub row_is_kept : (slab : Slab T) (all : List ℕ) (number : ℕ) → row_no (map (kept slab) all) number ≡ kept slab (key_at all number)
  row_is_kept slab all zero = refl
  row_is_kept slab all (suc place) = get_or-map (kept slab) all place 0

  -- a number with a row has a key, and the slab has that
  has_key : (slab : Slab T) (all : List ℕ) (number key : ℕ) → key ≡ key_at all number → HasRow (map (kept slab) all) number → (0 < key) × ContainsKey slab (key - 1)
  has_key slab all number key is has = by key (rw (is, ← row_is_kept slab all number) has)
    where
      by : (x : ℕ) → IsSome (kept slab x) → (0 < x) × ContainsKey slab (x - 1)
      by zero some = absurd (cc)
      by (suc x) some = (omega arith, let at : suc x - 1 ≡ x = omega arith in rw at some)

  -- the lowest numbers have no row
  pub lowest_have_none : (slab : Slab T) (base dead : ℕ) (keys : List ℕ) (rows : List (Option T)) (number : ℕ) → map (kept slab) (all_keys base keys) ≡ rows → IsFront dead keys → number ≤ base + dead → row_no rows number ≡ None
  lowest_have_none slab base dead keys rows number is front low =
      let same = keys_dropped base dead dead keys front.0 (omega arith) in
      ap (λ (all : List (Option T)). row_no all number) (sym is) ∙ row_is_kept slab (all_keys base keys) number
      ∙ ap (kept slab) (ap (λ (all : List ℕ). key_at all number) (sym same) ∙ key_below (base + dead) number (drop dead keys) low)

  pub length-rows : (slab : Slab T) (base : ℕ) (keys : List ℕ) → length (map (kept slab) (all_keys base keys)) ≡ base + length keys
  length-rows slab base keys = length-map _ _ ∙ length-all_keys base keys

  -- and the next one has a row
  pub next_has_row : (slab : Slab T) (base dead : ℕ) (keys : List ℕ) (rows : List (Option T)) → map (kept slab) (all_keys base keys) ≡ rows → IsTable slab (all_keys base keys) → IsFront dead keys → base + dead < length rows → HasRow rows (base + dead + 1)
  next_has_row slab base dead keys rows is table front more =
      let long = length-rows slab base keys in
      let same = ap length is in
      let some : 0 < get_or keys dead 0 = front.1 (omega (arith, long, same, more)) in
      let at : get_or (all_keys base keys) (base + dead) 0 ≡ get_or keys dead 0 = key_above base (suc (base + dead)) keys (omega arith) ∙ ap (λ (i : ℕ). get_or keys i 0) (let place_is : suc (base + dead) - base - 1 ≡ dead = omega arith in place_is) in
      rw (← is, add-one, row_is_kept slab (all_keys base keys) (suc (base + dead))) (by (get_or (all_keys base keys) (base + dead) 0) refl (omega (arith, some, at)))
    where
      by : (x : ℕ) → get_or (all_keys base keys) (base + dead) 0 ≡ x → 0 < x → IsSome (kept slab x)
      by zero e pos = absurd (omega (arith, pos))
      by (suc key) e pos = table.there (base + dead) key e

  -- Changes

  -- a key of the slab changes, and no other number has it
  other_kept : (old new : Slab T) (all : List ℕ) (k key : ℕ) (slot : Option T) → IsTable old all → get_or all k 0 ≡ suc key → Updates old new key slot → (j : ℕ) → j ≢ k → kept new (get_or all j 0) ≡ kept old (get_or all j 0)
  other_kept old new all k key slot table at updates j differ = by (get_or all j 0) refl
    where
      by : (x : ℕ) → get_or all j 0 ≡ x → kept new x ≡ kept old x
      by zero e = refl
      by (suc other) e = updates.others other (λ same. differ (table.apart j k other e (at ∙ ap suc (sym same))))

  -- the slab grows
  pub grown_table : (old new : Slab T) (all : List ℕ) → new ≡ record old { capacity = new.capacity } → IsTable old all → IsTable new all
  grown_table old new all kept_rest table = record {
    there = λ place key at. let same : get new key ≡ get old key = ap (λ (s : Slab T). get s key) kept_rest in rw same (table.there place key at);
    apart = table.apart;
    only = λ key has. let same : get new key ≡ get old key = ap (λ (s : Slab T). get s key) kept_rest in table.only key (rw same at has);
    few = table.few;
  }

  -- a row is put in the place of another
  pub rows_set : (old new : Slab T) (all : List ℕ) (number key : ℕ) (row : T) → IsTable old all → key_at all number ≡ suc key → Updates old new key (Some row) → map (kept new) all ≡ with_row (map (kept old) all) number (Some row)
  rows_set old new all zero key row table at updates = absurd (cc)
  rows_set old new all (suc place) key row table at updates =
      let here : get_or (map (kept new) all) place None ≡ Some row = get_or-map (kept new) all place 0 ∙ ap (kept new) at ∙ updates.changed in
      sym (set-get_or (map (kept new) all) place None) ∙ ap (λ (x : Option T). set (map (kept new) all) place x) here
      ∙ agree_elsewhere (kept new) (kept old) all place (Some row) (other_kept old new all place key (Some row) table at updates)

  pub table_set : (old new : Slab T) (all : List ℕ) (key : ℕ) (row : T) → IsTable old all → ContainsKey old key → Updates old new key (Some row) → IsTable new all
  table_set old new all key row table was updates = record {
    there = λ place other at. elim (cases_eq other key) [
      | inl same ↦ rw (same, updates.changed) refl
      | inr differs ↦ rw (updates.others other differs) (table.there place other at)
    ];
    apart = table.apart;
    only = λ other has. elim (cases_eq other key) [
      | inl same ↦ table.only other (rw same was)
      | inr differs ↦ table.only other (rw (updates.others other differs) at has)
    ];
    few = table.few;
  }

  -- a row is put in
  pub rows_pushed : (old new : Slab T) (base : ℕ) (keys : List ℕ) (key : ℕ) (row : T) → IsTable old (all_keys base keys) → get old key ≡ None → Updates old new key (Some row) → map (kept new) (all_keys base (keys ++ suc key ∷ [])) ≡ map (kept old) (all_keys base keys) ++ Some row ∷ []
  rows_pushed old new base keys key row table vacant updates =
      let all = all_keys base keys in
      ap (map (kept new)) (sym (append_assoc (replicate base 0) keys (suc key ∷ []))) ∙ map-append (kept new) all (suc key ∷ [])
      ∙ ap (λ (x : Option T). map (kept new) all ++ x ∷ []) updates.changed
      ∙ ap (λ (front : List (Option T)). front ++ Some row ∷ []) (agree_on (kept new) (kept old) all (λ j within. by j (get_or all j 0) refl))
    where
      by : (j x : ℕ) → get_or (all_keys base keys) j 0 ≡ x → kept new x ≡ kept old x
      by j zero e = refl
      by j (suc other) e = updates.others other (λ same. absurd (let some : IsSome (get old key) = rw (← same) (table.there j other e) in let none : IsSome {T = T} None = rw vacant at some in cc))

  pub table_pushed : (old new : Slab T) (base : ℕ) (keys : List ℕ) (key : ℕ) (row : T) → IsTable old (all_keys base keys) → length (all_keys base keys) < MAX_ROWS → get old key ≡ None → Updates old new key (Some row) → IsTable new (all_keys base (keys ++ suc key ∷ []))
  table_pushed old new base keys key row table few vacant updates =
      let more : all_keys base (keys ++ suc key ∷ []) ≡ all_keys base keys ++ suc key ∷ [] = sym (append_assoc (replicate base 0) keys (suc key ∷ [])) in
      rw more longer
    where
      all : List ℕ
      all = all_keys base keys

      is_other : (place other : ℕ) → get_or all place 0 ≡ suc other → other ≢ key
      is_other place other at same = absurd (let some : IsSome (get old key) = rw (← same) (table.there place other at) in let none : IsSome {T = T} None = rw vacant at some in cc)

      within : (place other : ℕ) → get_or all place 0 ≡ suc other → place < length all
      within place other at = elim (cases_lt place (length all)) [
        | inl lt ↦ lt
        | inr ge ↦ let none = get_or_past all place 0 ge in absurd (omega (arith, at, none))
      ]

      longer : IsTable new (all ++ suc key ∷ [])
      longer = record {
        there = λ place other at. elim (new_place all place key other at) [
          | inl before ↦ rw (updates.others other (is_other place other before.1)) (table.there place other before.1)
          | inr last ↦ rw (last.1, updates.changed) refl
        ];
        apart = λ place second other at at_second. elim (new_place all place key other at) [
          | inl before ↦ elim (new_place all second key other at_second) [
            | inl before_too ↦ table.apart place second other before.1 before_too.1
            | inr last ↦ absurd (is_other place other before.1 last.1)
          ]
          | inr last ↦ elim (new_place all second key other at_second) [
            | inl before ↦ absurd (is_other second other before.1 last.1)
            | inr last_too ↦ last.0 ∙ sym last_too.0
          ]
        ];
        only = λ other has. elim (cases_eq other key) [
          | inl same ↦ (length all, get_or-append_seam all (suc key) [] 0 ∙ ap suc (sym same))
          | inr differs ↦
              let (place, at) = table.only other (rw (updates.others other differs) at has) in
              (place, get_or_append_left all (suc key ∷ []) 0 place (within place other at) ∙ at)
        ];
        few = let long = length-append all (suc key ∷ []) in omega (arith, long, few);
      }

  -- a row is taken out
  pub rows_removed : (old new : Slab T) (all : List ℕ) (number key : ℕ) → IsTable old all → key_at all number ≡ suc key → Updates old new key None → map (kept new) (without_key all number) ≡ with_row (map (kept old) all) number None
  rows_removed old new all zero key table at updates = absurd (cc)
  rows_removed old new all (suc place) key table at updates =
      map-set (kept new) all place 0 ∙ agree_elsewhere (kept new) (kept old) all place None (other_kept old new all place key None table at updates)

  pub table_removed : (old new : Slab T) (all : List ℕ) (number key : ℕ) → IsTable old all → key_at all number ≡ suc key → Updates old new key None → IsTable new (without_key all number)
  table_removed old new all zero key table at updates = absurd (cc)
  table_removed old new all (suc place) key table at updates = record {
    there = λ other second found.
        let (differs, was) = kept_place other second found in
        rw (updates.others second (λ same. differs (table.apart other place second was (at ∙ ap suc (sym same))))) (table.there other second was);
    apart = λ other third second found found_third. table.apart other third second (kept_place other second found).1 (kept_place third second found_third).1;
    only = λ second has. elim (cases_eq second key) [
      | inl same ↦ absurd (let none : IsSome {T = T} None = rw (same, updates.changed) at has in cc)
      | inr differs ↦
          let (other, was) = table.only second (rw (updates.others second differs) at has) in
          (other, get_or-set_other all place other 0 0 (λ same. differs (let both = sym was ∙ ap (λ (i : ℕ). get_or all i 0) same ∙ at in omega (arith, both))) ∙ was)
    ];
    few = rw (length-set all place 0) table.few;
  }
    where
      kept_place : (other second : ℕ) → get_or (set all place 0) other 0 ≡ suc second → (other ≢ place) × (get_or all other 0 ≡ suc second)
      kept_place other second found = elim (cases_eq other place) [
        | inl same ↦ absurd (by same)
        | inr differs ↦ (differs, sym (get_or-set_other all place other 0 0 differs) ∙ found)
      ]
        where
          by : other ≡ place → ⊥
          by same = elim (cases_lt place (length all)) [
            | inl lt ↦ let none = ap (λ (i : ℕ). get_or (set all place 0) i 0) same ∙ get_or-set_same all place 0 0 lt in omega (arith, found, none)
            | inr ge ↦ let none = get_or_past (set all place 0) other 0 (let long = length-set all place 0 in omega (arith, long, ge, same)) in omega (arith, found, none)
          ]

  -- As the calls read them

  pub row_found : (slab : Slab T) (all : List ℕ) (rows : List (Option T)) (number key : ℕ) → map (kept slab) all ≡ rows → key ≡ key_at all number → 0 < key → row_no rows number ≡ get slab (key - 1)
  row_found slab all rows number key is at some =
      ap (λ (all : List (Option T)). row_no all number) (sym is) ∙ row_is_kept slab all number ∙ ap (kept slab) (key_before all number key at some)

  pub push_leaves : (old new : Slab T) (base dead : ℕ) (keys longer : List ℕ) (rows : List (Option T)) (key : ℕ) (row : T) → map (kept old) (all_keys base keys) ≡ rows → IsTable old (all_keys base keys) → IsFront dead keys → length rows < MAX_ROWS →
      get old key ≡ None → Updates old new key (Some row) → longer ≡ keys ++ (key + 1) ∷ [] →
      (map (kept new) (all_keys base longer) ≡ rows ++ Some row ∷ []) × IsTable new (all_keys base longer) × IsFront dead longer
  push_leaves old new base dead keys longer rows key row is table front few vacant updates written =
      let same : keys ++ suc key ∷ [] ≡ longer = sym (written ∙ ap (λ (last : ℕ). keys ++ last ∷ []) (add-one key)) in
      let long = length-map (all_keys base keys) (kept old) in
      let all = ap length is in
      rw (← same) (
        rows_pushed old new base keys key row table vacant updates ∙ ap (λ (front : List (Option T)). front ++ Some row ∷ []) is,
        table_pushed old new base keys key row table (omega (arith, few, long, all)) vacant updates,
        front_pushed dead keys key front,
      )

  pub number_has_key : (slab : Slab T) (all : List ℕ) (rows : List (Option T)) (number : ℕ) → map (kept slab) all ≡ rows → HasRow rows number → 0 < key_at all number
  number_has_key slab all rows number is has = (has_key slab all number _ refl (rw is has)).0

  pub row_there : (slab : Slab T) (all : List ℕ) (rows : List (Option T)) (number key : ℕ) → map (kept slab) all ≡ rows → key ≡ key_at all number → HasRow rows number →
      (0 < key) × ContainsKey slab (key - 1) × (row_no rows number ≡ get slab (key - 1))
  row_there slab all rows number key is at has =
      let (some, there) = has_key slab all number key at (rw is has) in
      (some, there, row_found slab all rows number key is at some)

  pub write_leaves : (slab : Slab T) (all : List ℕ) (rows : List (Option T)) (number key : ℕ) (row : T) → map (kept slab) all ≡ rows → IsTable slab all → key ≡ key_at all number → HasRow rows number →
      (map (kept (with_value slab (key - 1) row)) all ≡ with_row rows number (Some row)) × IsTable (with_value slab (key - 1) row) all
  write_leaves slab all rows number key row is table at has =
      let (some, there) = has_key slab all number key at (rw is has) in
      let updates = Updates-with_value slab (key - 1) row there in (
        rows_set slab (with_value slab (key - 1) row) all number (key - 1) row table (key_before all number key at some) updates ∙ ap (λ (all : List (Option T)). with_row all number (Some row)) is,
        table_set slab (with_value slab (key - 1) row) all (key - 1) row table there updates,
      )

  -- as many keys have a row as before
  same_len : (slab : Slab T) (key : ℕ) (row : T) → ContainsKey slab key → slab_len (with_value slab key row) ≡ slab_len slab
  same_len slab key row there = by (get slab key) refl there
    where
      by : (slot : Option T) → get slab key ≡ slot → IsSome slot → slab_len (with_value slab key row) ≡ slab_len slab
      by None e some = absurd (cc)
      by (Some was) e some =
          let sum = sum_by-set (λ (o : Option T). cond (is_some o) 1 0) slab.slots key (Some row) None (ContainsKey-within slab key there) in
          let one : ◌≡◌ {A = ℕ} (cond (is_some (get slab key)) 1 0) 1 = rw e refl in
          omega (arith, sum, one)

  pub view_after_write : (slab : Slab T) (base : ℕ) (keys : List ℕ) (free : ℕ) (view : RowsView T) (number key : ℕ) (row : T) → record { rows = map (kept slab) (all_keys base keys); room = min (slab.capacity - slab_len slab) free } ≡ view →
      IsTable slab (all_keys base keys) → key ≡ key_at (all_keys base keys) number → HasRow view.rows number →
      record { rows = map (kept (with_value slab (key - 1) row)) (all_keys base keys); room = min (slab.capacity - slab_len (with_value slab (key - 1) row)) free } ≡ record view { rows = with_row view.rows number (Some row) }
  view_after_write slab base keys free view number key row is table at has =
      let rows = ap (λ (v : RowsView T). v.rows) is in
      let rows_now = (write_leaves slab (all_keys base keys) view.rows number key row rows table at has).0 in
      let room_now : min (slab.capacity - slab_len (with_value slab (key - 1) row)) free ≡ view.room =
      ap (λ (n : ℕ). min (slab.capacity - n) free) (same_len slab (key - 1) row (row_there slab (all_keys base keys) view.rows number key rows at has).1) ∙ ap (λ (v : RowsView T). v.room) is in
      rw (rows_now, room_now) refl

  pub remove_leaves : (old new : Slab T) (all fewer : List ℕ) (rows : List (Option T)) (number key : ℕ) → map (kept old) all ≡ rows → IsTable old all → key ≡ key_at all number → HasRow rows number →
      Updates old new (key - 1) None → fewer ≡ without_key all number → (map (kept new) fewer ≡ with_row rows number None) × IsTable new fewer
  remove_leaves old new all fewer rows number key is table at has updates same =
      let found = key_before all number key at (row_there old all rows number key is at has).0 in
      rw same (
        rows_removed old new all number (key - 1) table found updates ∙ ap (λ (all : List (Option T)). with_row all number None) is,
        table_removed old new all number (key - 1) table found updates,
      )
