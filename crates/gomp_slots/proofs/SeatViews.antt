-- A step changes the view of one seat, and all seats are then what they have to be.
use Rattle.std.proofs.Common.{◌≡◌, ◌≢◌, ℕ, zero, suc, ◌<◌, true, List, [], ◌∷◌, length, set, Option, Some, None, ◌⊎◌, inl, inr, refl, ap, sym, ◌∙◌, subst, arith}
use Rattle.std.proofs.lemmas.Bool.Decides.{eqb_tells}
use Rattle.std.proofs.lemmas.Option.{none-some, same_Some}
use mathlib.Core.Option.{some, some-injective, some-ne-none}
use lib.ListN.{get_elem?}
use Rattle.atomic_table.proofs.Lists.{at_set, set_here, set_else}
use Rattle.gomp_types.specs.declared.shape.Shape.{Shape}
use Rattle.gomp_events.specs.declared.event.Event.{Event}
use Rattle.gomp_events.specs.Events.{shape_at, member_of}
use Rattle.gomp_events.specs.Tasks.{contains}
use Rattle.gomp_shares.specs.Only.{own_of}
use Rattle.gomp_shares.proofs.OwnEvents.{own_more, own_else}
use Rattle.gomp_slots.specs.declared.view.View.{View}
use Rattle.gomp_slots.specs.Words.{BusySlot}
use Rattle.gomp_slots.specs.Rule.{stands_for, Knows, AreSeats}

pub elem_within : (l : List View) (i : ℕ) (a : View) → get_elem? l i ≡ some a → i < length l
elem_within [] i a e = absurd (some-ne-none a (sym e))
elem_within (x ∷ xs) zero a e = omega arith
elem_within (x ∷ xs) (suc i) a e = let r = elem_within xs i a e in omega arith

-- what holds of a view that takes the place of another
pub record TakesPlace (id : ℕ) (views : List View) (v w : View) (h after : List Event) (busy then_busy : Option BusySlot) : Type 0 where
  pub mine : w.mine ≡ v.mine
  pub alone : w.alone ≡ v.alone
  pub knows : Knows w after
  pub others : (j : ℕ) (u : View) → get_elem? views j ≡ some u → j ≢ id → Knows u after
  pub shapes : (i : ℕ) (shape : Shape) → shape_at i h ≡ Some shape → shape_at i after ≡ Some shape
  pub found : (shape : Shape) → w.found ≡ Some shape → shape_at w.share after ≡ Some shape
  pub opener : (shape : Shape) → w.opening ≡ Some shape → then_busy ≡ Some (record { id = id; share = w.share; shape = shape; stored = w.stored })
  pub other_opener : (j : ℕ) (u : View) (shape : Shape) → get_elem? views j ≡ some u → j ≢ id → u.opening ≡ Some shape → then_busy ≡ Some (record { id = j; share = u.share; shape = shape; stored = u.stored })
  pub opens : (b : BusySlot) → then_busy ≡ Some b → ((b.id ≡ id) × (w.opening ≡ Some b.shape)) ⊎ ((b.id ≢ id) × ((u : View) × (get_elem? views b.id ≡ some u) × (u.opening ≡ Some b.shape)))

pub seats_set : (id : ℕ) (views : List View) (v w : View) (h after : List Event) (busy then_busy : Option BusySlot) → AreSeats views h busy → get_elem? views id ≡ some v → TakesPlace id views v w h after busy then_busy → AreSeats (set views id w) after then_busy
seats_set id views v w h after busy then_busy seats at f = record {
  knows = λ j u at_j. elim (at_set views id j w u at_j) [
    | inl e ↦ subst (λ (x : View). Knows x after) e.1 f.knows
    | inr e ↦ f.others j u e.1 e.0
  ];
  apart = λ a b m x y at_a at_b is_a is_b. elim (at_set views id a w x at_a) [
    | inl e ↦ elim (at_set views id b w y at_b) [
      | inl g ↦ e.0 ∙ sym g.0
      | inr g ↦ e.0 ∙ sym (seats.apart b id m y v g.1 at is_b (mine x m e.1 is_a))
    ]
    | inr e ↦ elim (at_set views id b w y at_b) [
      | inl g ↦ seats.apart a id m x v e.1 at is_a (mine y m g.1 is_b) ∙ sym g.0
      | inr g ↦ seats.apart a b m x y e.1 g.1 is_a is_b
    ]
  ];
  lonely = λ a b x y at_a at_b is. elim (at_set views id a w x at_a) [
    | inl e ↦ elim (at_set views id b w y at_b) [
      | inl g ↦ e.0 ∙ sym g.0
      | inr g ↦ e.0 ∙ seats.lonely id b v y at g.1 (sym f.alone ∙ ap (λ (z : View). z.alone) e.1 ∙ is)
    ]
    | inr e ↦ elim (at_set views id b w y at_b) [
      | inl g ↦ seats.lonely a id x v e.1 at is ∙ sym g.0
      | inr g ↦ seats.lonely a b x y e.1 g.1 is
    ]
  ];
  opener = λ j u shape at_j o. elim (at_set views id j w u at_j) [
    | inl e ↦
        let mine_opens : w.opening ≡ Some shape = ap (λ (z : View). z.opening) e.1 ∙ o in
        f.opener shape mine_opens ∙ ap (λ (p : ℕ × View). Some (record { id = p.0; share = p.1.share; shape = shape; stored = p.1.stored })) (pair id j w u (sym e.0) e.1)
    | inr e ↦ f.other_opener j u shape e.1 e.0 o
  ];
  opens = λ b e. elim (f.opens b e) [
    | inl own ↦ (w, ap (get_elem? (set views id w)) own.0 ∙ set_here views id w (elem_within views id v at), own.1)
    | inr other ↦ let u = other.1 in (u.0, set_else views id b.id w other.0 ∙ u.1, u.2)
  ];
  found = λ j u shape at_j o. elim (at_set views id j w u at_j) [
    | inl e ↦ subst (λ (x : View). shape_at x.share after ≡ Some shape) e.1 (f.found shape (ap (λ (z : View). z.found) e.1 ∙ o))
    | inr e ↦ f.shapes u.share shape (seats.found j u shape e.1 o)
  ];
}
  where
    mine : (x : View) (m : ℕ) → w ≡ x → stands_for x m ≡ true → stands_for v m ≡ true
    mine x m e is = subst (λ (l : List ℕ). contains m l ≡ true) (ap (λ (z : View). z.mine) (sym e) ∙ f.mine) is

    pair : (i j : ℕ) (x y : View) → i ≡ j → x ≡ y → ◌≡◌ {A = ℕ × View} (i, x) (j, y)
    pair i j x y e g = rw (e, g) refl

-- an event of a member that the seat stands for
pub knows_more : (m : ℕ) (event : Event) (v w : View) (h : List Event) → Knows v h → w.mine ≡ v.mine → w.alone ≡ v.alone → w.did ≡ event ∷ v.did → Knows w (event ∷ h)
knows_more m event v w h mine same alone did = record {
  own = λ k is. ap (own_of k) did ∙ own_more k event v.did h (mine.own k (subst (λ (l : List ℕ). contains k l ≡ true) same is));
  all = λ is. did ∙ ap (λ (rest : List Event). event ∷ rest) (mine.all (sym alone ∙ is));
}

-- is known to no other seat
pub knows_else : (id m : ℕ) (event : Event) (views : List View) (v : View) (h : List Event) (busy : Option BusySlot) → AreSeats views h busy → get_elem? views id ≡ some v → stands_for v m ≡ true → member_of event ≡ m → (j : ℕ) (u : View) → get_elem? views j ≡ some u → j ≢ id → Knows u (event ∷ h)
knows_else id m event views v h busy seats at stands who j u at_j differ =
    let theirs = seats.knows j u at_j in record {
      own = λ k is. theirs.own k is ∙ sym (own_else k event h (λ e. differ (seats.apart j id m u v at_j at (subst (λ (n : ℕ). stands_for u n ≡ true) (e ∙ who) is) stands)));
      all = λ is. absurd (differ (seats.lonely j id u v at_j at is));
    }

pub view_at : (views : List View) (i j : ℕ) (v u : View) → get_elem? views i ≡ some v → get_elem? views j ≡ some u → i ≡ j → v ≡ u
view_at views i j v u a b e = some-injective v u (sym a ∙ ap (get_elem? views) e ∙ b)

-- who opens after a step that leaves that as it was
still_opens : (id : ℕ) (views : List View) (v w : View) (h : List Event) (busy : Option BusySlot) → AreSeats views h busy → get_elem? views id ≡ some v → w.opening ≡ v.opening → (b : BusySlot) → busy ≡ Some b → ((b.id ≡ id) × (w.opening ≡ Some b.shape)) ⊎ ((b.id ≢ id) × ((u : View) × (get_elem? views b.id ≡ some u) × (u.opening ≡ Some b.shape)))
still_opens id views v w h busy seats at same b e =
    let u = seats.opens b e in
    elim (eqb_tells b.id id) [
      | inl is ↦ inl (is.1, same ∙ ap (λ (z : View). z.opening) (view_at views id b.id v u.0 at u.1 (sym is.1)) ∙ u.2)
      | inr other ↦ inr (other.1, u)
    ]

-- a step with an event, which leaves the opening as it was
pub seats_act : (id m : ℕ) (event : Event) (views : List View) (v w : View) (h : List Event) (busy : Option BusySlot) → AreSeats views h busy → get_elem? views id ≡ some v → stands_for v m ≡ true → member_of event ≡ m →
    ((i : ℕ) (shape : Shape) → shape_at i h ≡ Some shape → shape_at i (event ∷ h) ≡ Some shape) → w ≡ record v { did = event ∷ v.did; found = None } → AreSeats (set views id w) (event ∷ h) busy
seats_act id m event views v w h busy seats at stands who shapes is = seats_set id views v w h (event ∷ h) busy busy seats at (record {
  mine = ap (λ (z : View). z.mine) is;
  alone = ap (λ (z : View). z.alone) is;
  knows = knows_more m event v w h (seats.knows id v at) (ap (λ (z : View). z.mine) is) (ap (λ (z : View). z.alone) is) (ap (λ (z : View). z.did) is);
  others = knows_else id m event views v h busy seats at stands who;
  shapes = shapes;
  found = λ shape o. absurd (none-some shape (sym (ap (λ (z : View). z.found) is) ∙ o));
  opener = λ shape o. seats.opener id v shape at (sym (ap (λ (z : View). z.opening) is) ∙ o) ∙ ap (λ (z : View). Some (record { id = id; share = z.share; shape = shape; stored = z.stored })) (back shape);
  other_opener = λ j u shape at_j differ o. seats.opener j u shape at_j o;
  opens = still_opens id views v w h busy seats at (ap (λ (z : View). z.opening) is);
})
  where
    back : (shape : Shape) → v ≡ record w { did = v.did; found = v.found }
    back shape = sym (ap (λ (z : View). record z { did = v.did; found = v.found }) is)

-- a step without an event, which changes what the seat looks at
pub seats_look : (id : ℕ) (views : List View) (v w : View) (h : List Event) (busy : Option BusySlot) (i : ℕ) (shape : Shape) → AreSeats views h busy → get_elem? views id ≡ some v → v.opening ≡ None → shape_at i h ≡ Some shape → w ≡ record v { share = i; found = Some shape } → AreSeats (set views id w) h busy
seats_look id views v w h busy i shape seats at idle there is = seats_set id views v w h h busy busy seats at (record {
  mine = ap (λ (z : View). z.mine) is;
  alone = ap (λ (z : View). z.alone) is;
  knows = let k = seats.knows id v at in subst (λ (z : View). Knows z h) (sym is) (record { own = k.own; all = k.all });
  others = λ j u at_j differ. seats.knows j u at_j;
  shapes = λ j s e. e;
  found = λ s o. subst (λ (z : View). shape_at z.share h ≡ Some s) (sym is) (there ∙ ap Some (same_Some shape s (sym (ap (λ (z : View). z.found) is) ∙ o)));
  opener = λ s o. absurd (none-some s (sym idle ∙ sym (ap (λ (z : View). z.opening) is) ∙ o));
  other_opener = λ j u s at_j differ o. seats.opener j u s at_j o;
  opens = still_opens id views v w h busy seats at (ap (λ (z : View). z.opening) is);
})
