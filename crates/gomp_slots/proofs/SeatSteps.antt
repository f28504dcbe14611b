-- A seat is split in two, two seats are joined, and one learns that there is a list of events of which it knows its part.
use Rattle.std.proofs.Common.{◌≡◌, ◌≢◌, ℕ, zero, suc, ◌<◌, Bool, true, false, List, [], ◌∷◌, ◌++◌, length, set, Option, Some, None, ◌⊎◌, inl, inr, refl, ap, sym, ◌∙◌, subst, arith, length-set}
use Rattle.std.specs.Prelude.{◌==◌, ◌||◌}
use Rattle.std.proofs.lemmas.Bool.{cases_Bool}
use Rattle.std.proofs.lemmas.Option.{none-some}
use mathlib.Core.Option.{some, some-injective, some-ne-none}
use lib.ListN.{get_elem?}
use Rattle.atomic_table.specs.Table.{Splits, Joins, Me, Step, keeps, Allows}
use Rattle.atomic_table.proofs.Lists.{at_set, set_else, at_longer}
use Rattle.gomp_types.specs.declared.shape.Shape.{Shape}
use Rattle.gomp_events.specs.declared.event.Event.{Event}
use Rattle.gomp_events.specs.Events.{shape_at, member_of}
use Rattle.gomp_events.specs.Tasks.{contains}
use Rattle.gomp_types.proofs.Booleans.{or_tells, or_right, not_both}
use Rattle.gomp_shares.specs.Only.{own_of}
use Rattle.gomp_slots.specs.declared.view.TeamSize.{TeamSize}
use Rattle.gomp_slots.specs.declared.view.View.{View}
use Rattle.gomp_slots.specs.Words.{BusySlot}
use Rattle.gomp_slots.specs.Rule.{stands_for, Knows, AreSeats, IsRing, IsKept}
use Rattle.gomp_slots.specs.Plays.{SettleStep}
use Rattle.gomp_slots.specs.Seats.{without_second, second_alone, kept_view, dealt_view, IsSecondOnce, both_view, spent_view, IsApart}
use Rattle.gomp_slots.proofs.SeatViews.{elem_within}
use Rattle.gomp_slots.proofs.WordSteps.{ring_of_size, kept_still}

off_on : false ≡ true → ⊥
off_on e = cc

at_appended : (l : List View) (x y : View) (j : ℕ) → get_elem? (l ++ x ∷ []) j ≡ some y → ((get_elem? l j ≡ some y) × (j < length l)) ⊎ ((j ≡ length l) × (x ≡ y))
at_appended [] x y zero e = inr (refl, some-injective x y e)
at_appended [] x y (suc j) e = absurd (some-ne-none y (sym e))
at_appended (z ∷ l) x y zero e = inl (e, (omega arith))
at_appended (z ∷ l) x y (suc j) e = elim (at_appended l x y j e) [
  | inl t ↦ inl (t.0, (let lt = t.1 in omega arith))
  | inr t ↦ inr (ap suc t.0, t.1)
]

kept_among : (l : List ℕ) (m : ℕ) → contains m (without_second l) ≡ true → contains m l ≡ true
kept_among [] m e = e
kept_among (first ∷ []) m e = e
kept_among (first ∷ (second ∷ others)) m e = by (first == m) (second == m) e
  where
    by : (a b : Bool) → (a || contains m others) ≡ true → (a || (b || contains m others)) ≡ true
    by true b e = refl
    by false true e = refl
    by false false e = e

dealt_among : (l : List ℕ) (m : ℕ) → contains m (second_alone l) ≡ true → contains m l ≡ true
dealt_among [] m e = e
dealt_among (first ∷ []) m e = absurd (off_on e)
dealt_among (first ∷ (second ∷ others)) m e = by (first == m) (second == m) e
  where
    by : (a b : Bool) → (b || false) ≡ true → (a || (b || contains m others)) ≡ true
    by true b e = refl
    by false true e = refl
    by false false e = absurd (off_on e)

among_split : (id : ℕ) (views : List View) (v : View) (j : ℕ) (u : View) → get_elem? (set views id (kept_view v) ++ dealt_view v ∷ []) j ≡ some u → ((j ≡ id) × (kept_view v ≡ u)) ⊎ (((j ≢ id) × (j < length views) × (get_elem? views j ≡ some u)) ⊎ ((j ≡ length views) × (dealt_view v ≡ u)))
among_split id views v j u e = elim (at_appended (set views id (kept_view v)) (dealt_view v) u j e) [
  | inl t ↦ elim (at_set views id j (kept_view v) u t.0) [
    | inl own ↦ inl own
    | inr other ↦ inr (inl (other.0, (let lt = t.1 in let same = length-set views id (kept_view v) in omega arith), other.1))
  ]
  | inr t ↦ inr (inr (t.0 ∙ length-set views id (kept_view v), t.1))
]

-- both parts stand for members of the whole
kept_stands : (v u : View) (m : ℕ) → kept_view v ≡ u → stands_for u m ≡ true → stands_for v m ≡ true
kept_stands v u m e is = kept_among v.mine m (ap (λ (z : View). contains m z.mine) e ∙ is)

dealt_stands : (v u : View) (m : ℕ) → dealt_view v ≡ u → stands_for u m ≡ true → stands_for v m ≡ true
dealt_stands v u m e is = dealt_among v.mine m (ap (λ (z : View). contains m z.mine) e ∙ is)

seats_split : (id : ℕ) (views : List View) (v : View) (h : List Event) (busy : Option BusySlot) → AreSeats views h busy → get_elem? views id ≡ some v → id < length views → v.opening ≡ None →
    IsSecondOnce v.mine → AreSeats (set views id (kept_view v) ++ dealt_view v ∷ []) h busy
seats_split id views v h busy seats at within idle distinct = record {
  knows = λ j u at_j. elim (among_split id views v j u at_j) [
    | inl own ↦ subst (λ (z : View). Knows z h) own.1 (record { own = λ m is. (seats.knows id v at).own m (kept_among v.mine m is); all = λ is. absurd (off_on is) })
    | inr rest ↦ elim rest [
      | inl other ↦ seats.knows j u other.2
      | inr new ↦ subst (λ (z : View). Knows z h) new.1 (record { own = λ m is. (seats.knows id v at).own m (dealt_among v.mine m is); all = λ is. absurd (off_on is) })
    ]
  ];
  apart = λ a b m x y at_a at_b is_a is_b. elim (among_split id views v a x at_a) [
    | inl p ↦ elim (among_split id views v b y at_b) [
      | inl q ↦ p.0 ∙ sym q.0
      | inr q ↦ elim q [
        | inl r ↦ p.0 ∙ sym (seats.apart b id m y v r.2 at is_b (kept_stands v x m p.1 is_a))
        | inr r ↦ absurd (not_both _ (ap (λ (z : View). contains m z.mine) p.1 ∙ is_a) (distinct m (ap (λ (z : View). contains m z.mine) r.1 ∙ is_b)))
      ]
    ]
    | inr p ↦ elim p [
      | inl o ↦ elim (among_split id views v b y at_b) [
        | inl q ↦ seats.apart a id m x v o.2 at is_a (kept_stands v y m q.1 is_b) ∙ sym q.0
        | inr q ↦ elim q [
          | inl r ↦ seats.apart a b m x y o.2 r.2 is_a is_b
          | inr r ↦ absurd (o.0 (seats.apart a id m x v o.2 at is_a (dealt_stands v y m r.1 is_b)))
        ]
      ]
      | inr o ↦ elim (among_split id views v b y at_b) [
        | inl q ↦ absurd (not_both _ (ap (λ (z : View). contains m z.mine) q.1 ∙ is_b) (distinct m (ap (λ (z : View). contains m z.mine) o.1 ∙ is_a)))
        | inr q ↦ elim q [
          | inl r ↦ absurd (r.0 (seats.apart b id m y v r.2 at is_b (dealt_stands v x m o.1 is_a)))
          | inr r ↦ o.0 ∙ sym r.0
        ]
      ]
    ]
  ];
  lonely = λ a b x y at_a at_b is. absurd (elim (among_split id views v a x at_a) [
    | inl p ↦ off_on (ap (λ (z : View). z.alone) p.1 ∙ is)
    | inr p ↦ elim p [
      | inl o ↦ o.0 (seats.lonely a id x v o.2 at is)
      | inr o ↦ off_on (ap (λ (z : View). z.alone) o.1 ∙ is)
    ]
  ]);
  opener = λ j u shape at_j o. elim (among_split id views v j u at_j) [
    | inl own ↦ absurd (none-some shape (sym idle ∙ ap (λ (z : View). z.opening) own.1 ∙ o))
    | inr rest ↦ elim rest [
      | inl other ↦ seats.opener j u shape other.2 o
      | inr new ↦ absurd (none-some shape (ap (λ (z : View). z.opening) new.1 ∙ o))
    ]
  ];
  opens = λ b e.
      let u = seats.opens b e in
      let apart : b.id ≢ id = λ same. none-some b.shape (sym idle ∙ ap (λ (z : View). z.opening) (some-injective v u.0 (sym at ∙ ap (get_elem? views) (sym same) ∙ u.1)) ∙ u.2) in
      (u.0, at_longer (set views id (kept_view v)) (dealt_view v ∷ []) b.id u.0 (set_else views id b.id (kept_view v) apart ∙ u.1), u.2);
  found = λ j u shape at_j o. elim (among_split id views v j u at_j) [
    | inl own ↦ subst (λ (z : View). shape_at z.share h ≡ Some shape) own.1 (seats.found id v shape at (ap (λ (z : View). z.found) own.1 ∙ o))
    | inr rest ↦ elim rest [
      | inl other ↦ seats.found j u shape other.2 o
      | inr new ↦ absurd (none-some shape (ap (λ (z : View). z.found) new.1 ∙ o))
    ]
  ];
}

pub split_allowed : (id : ℕ) (v : View) (team : TeamSize) → v.opening ≡ None → IsSecondOnce v.mine → Splits {S = Shape} (IsKept team) id v (kept_view v) (dealt_view v)
split_allowed id v team idle distinct s kept at = record {
  events = kept.events;
  busy = kept.busy;
  ring = record {
    team = kept.ring.team;
    table = kept.ring.table;
    opening = kept.ring.opening;
    seats = seats_split id s.views v kept.events kept.busy kept.ring.seats at (elem_within s.views id v at) idle distinct;
  };
}

-- Joining

pub own_of_both : (m : ℕ) (a b : List Event) → own_of m (a ++ b) ≡ own_of m a ++ own_of m b
own_of_both m [] b = refl
own_of_both m (event ∷ a) b = elim (cases_Bool (member_of event == m)) [
  | inl e ↦ rw e (ap (λ (rest : List Event). event ∷ rest) (own_of_both m a b))
  | inr e ↦ rw e (own_of_both m a b)
]

with_none : (a : List Event) → a ++ [] ≡ a
with_none [] = refl
with_none (event ∷ a) = ap (λ (rest : List Event). event ∷ rest) (with_none a)

in_both : (a b : List ℕ) (m : ℕ) → contains m (a ++ b) ≡ true → (contains m a ≡ true) ⊎ (contains m b ≡ true)
in_both [] b m e = inr e
in_both (first ∷ a) b m e = elim (or_tells (first == m) (contains m (a ++ b)) e) [
  | inl here ↦ inl (rw here refl)
  | inr later ↦ elim (in_both a b m later) [ inl x ↦ inl (or_right (first == m) (contains m a) x) | inr y ↦ inr y ]
]

both_knows : (v w : View) (h : List Event) → Knows v h → Knows w h → IsApart v w → Knows (both_view v w) h
both_knows v w h one two apart = record {
  own = λ m is. own_of_both m w.did v.did ∙ elim (in_both v.mine w.mine m is) [
    | inl a ↦ ap (λ (l : List Event). l ++ own_of m v.did) (apart.right m a) ∙ one.own m a
    | inr b ↦ ap (λ (l : List Event). own_of m w.did ++ l) (apart.left m b) ∙ with_none (own_of m w.did) ∙ two.own m b
  ];
  all = λ is. absurd (off_on is);
}

among_joined : (id other : ℕ) (views : List View) (v w : View) (j : ℕ) (u : View) → get_elem? (set (set views id (both_view v w)) other spent_view) j ≡ some u →
    ((j ≡ other) × (spent_view ≡ u)) ⊎ (((j ≢ other) × (j ≡ id) × (both_view v w ≡ u)) ⊎ ((j ≢ other) × (j ≢ id) × (get_elem? views j ≡ some u)))
among_joined id other views v w j u e = elim (at_set (set views id (both_view v w)) other j spent_view u e) [
  | inl last ↦ inl last
  | inr rest ↦ elim (at_set views id j (both_view v w) u rest.1) [
    | inl own ↦ inr (inl (rest.0, own.0, own.1))
    | inr other ↦ inr (inr (rest.0, other.0, other.1))
  ]
]

seats_join : (id other : ℕ) (views : List View) (v w : View) (h : List Event) (busy : Option BusySlot) → AreSeats views h busy → get_elem? views id ≡ some v → other ≢ id → get_elem? views other ≡ some w → v.opening ≡ None → w.opening ≡ None → IsApart v w →
    AreSeats (set (set views id (both_view v w)) other spent_view) h busy
seats_join id other views v w h busy seats at differ at_other idle_v idle_w parts = record {
  knows = λ j u at_j. elim (among_joined id other views v w j u at_j) [
    | inl p ↦ subst (λ (z : View). Knows z h) p.1 (record { own = λ m is. absurd (off_on is); all = λ is. absurd (off_on is) })
    | inr p ↦ elim p [
      | inl q ↦ subst (λ (z : View). Knows z h) q.2 (both_knows v w h (seats.knows id v at) (seats.knows other w at_other) parts)
      | inr q ↦ seats.knows j u q.2
    ]
  ];
  apart = λ a b m x y at_a at_b is_a is_b. elim (among_joined id other views v w a x at_a) [
    | inl p ↦ absurd (off_on (ap (λ (z : View). contains m z.mine) p.1 ∙ is_a))
    | inr p ↦ elim (among_joined id other views v w b y at_b) [
      | inl q ↦ absurd (off_on (ap (λ (z : View). contains m z.mine) q.1 ∙ is_b))
      | inr q ↦ elim p [
        | inl o ↦ elim q [
          | inl r ↦ o.1 ∙ sym r.1
          | inr r ↦ absurd (elim (in_both v.mine w.mine m (ap (λ (z : View). contains m z.mine) o.2 ∙ is_a)) [
            | inl k ↦ r.1 (seats.apart b id m y v r.2 at is_b k)
            | inr k ↦ r.0 (seats.apart b other m y w r.2 at_other is_b k)
          ])
        ]
        | inr o ↦ elim q [
          | inl r ↦ absurd (elim (in_both v.mine w.mine m (ap (λ (z : View). contains m z.mine) r.2 ∙ is_b)) [
            | inl k ↦ o.1 (seats.apart a id m x v o.2 at is_a k)
            | inr k ↦ o.0 (seats.apart a other m x w o.2 at_other is_a k)
          ])
          | inr r ↦ seats.apart a b m x y o.2 r.2 is_a is_b
        ]
      ]
    ]
  ];
  lonely = λ a b x y at_a at_b is. absurd (elim (among_joined id other views v w a x at_a) [
    | inl p ↦ off_on (ap (λ (z : View). z.alone) p.1 ∙ is)
    | inr p ↦ elim p [
      | inl o ↦ off_on (ap (λ (z : View). z.alone) o.2 ∙ is)
      | inr o ↦ o.1 (seats.lonely a id x v o.2 at is)
    ]
  ]);
  opener = λ j u shape at_j o. elim (among_joined id other views v w j u at_j) [
    | inl p ↦ absurd (none-some shape (ap (λ (z : View). z.opening) p.1 ∙ o))
    | inr p ↦ elim p [
      | inl q ↦ absurd (none-some shape (sym idle_v ∙ ap (λ (z : View). z.opening) q.2 ∙ o))
      | inr q ↦ seats.opener j u shape q.2 o
    ]
  ];
  opens = λ b e.
      let u = seats.opens b e in
      let apart_v : b.id ≢ id = λ same. none-some b.shape (sym idle_v ∙ ap (λ (z : View). z.opening) (some-injective v u.0 (sym at ∙ ap (get_elem? views) (sym same) ∙ u.1)) ∙ u.2) in
      let apart_w : b.id ≢ other = λ same. none-some b.shape (sym idle_w ∙ ap (λ (z : View). z.opening) (some-injective w u.0 (sym at_other ∙ ap (get_elem? views) (sym same) ∙ u.1)) ∙ u.2) in
      (u.0, set_else (set views id (both_view v w)) other b.id spent_view apart_w ∙ set_else views id b.id (both_view v w) apart_v ∙ u.1, u.2);
  found = λ j u shape at_j o. elim (among_joined id other views v w j u at_j) [
    | inl p ↦ absurd (none-some shape (ap (λ (z : View). z.found) p.1 ∙ o))
    | inr p ↦ elim p [
      | inl q ↦ subst (λ (z : View). shape_at z.share h ≡ Some shape) q.2 (seats.found id v shape at (ap (λ (z : View). z.found) q.2 ∙ o))
      | inr q ↦ seats.found j u shape q.2 o
    ]
  ];
}

pub join_allowed : (id other : ℕ) (v w : View) (team : TeamSize) → v.opening ≡ None → w.opening ≡ None → IsApart v w → Joins {S = Shape} (IsKept team) id v other w (both_view v w) spent_view
join_allowed id other v w team idle_v idle_w parts s kept at differ at_other =
    let there : get_elem? s.views other ≡ some w = sym (set_else s.views id other (both_view v w) differ) ∙ at_other in record {
      events = kept.events;
      busy = kept.busy;
      ring = record {
        team = kept.ring.team;
        table = kept.ring.table;
        opening = kept.ring.opening;
        seats = seats_join id other s.views v w kept.events kept.busy kept.ring.seats at differ there idle_v idle_w parts;
      };
    }

-- What a seat knows at the end

pub settle_allowed : (members id w slots : ℕ) (me : Me Shape View) (team : TeamSize) (st : Step Shape) → team.members ≡ members → Allows (IsKept team) slots id me w (λ n. n) (SettleStep members st me)
settle_allowed members id w slots me team st same s kept homes at bound =
    let ring : IsRing members s.words s.views kept.events kept.busy = ring_of_size members team s.words s.views kept.events kept.busy same kept.ring in (
      me.0,
      keeps,
      tt,
      kept_still id w me.1 me.0 team s kept at,
      (record { events = kept.events; knows = ring.seats.knows id me.0 at; rule = ring.team.rule; clean = ring.team.clean; shapes = ring.team.shapes }, refl),
    )
