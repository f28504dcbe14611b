use Rattle.std.proofs.Common.{◌≡◌, ◌<◌, ◌==◌, ℕ, List, true, Option, Some, None, IfSome, length, refl, subst, sym, ◌∙◌, arith}
use Rattle.std.proofs.lemmas.Bool.Decides.{nat_tests}
use Rattle.gomp_groups.specs.Stands.{GroupsView}
use Rattle.gomp_groups.proofs.Fields.{view_stands, view_seated, seat_read, open_read, own_within}
use Rattle.gomp_groups.proofs.groups.Groups.last_open.Goals as goal

pub returns-clause-value : goal.returns-clause-value
returns-clause-value c = λ h st.
    let seat = seat_read _ _ _ c.args.task _ c.deref.ensures.value c.seat_of.ensures.value in
    c.group.ensures ∙ c.open_group.ensures ∙ open_read c.self.inside.groups.items c.self.inside.tasks.rows c.self.inside.members.items c.args.task _ h (view_stands _ _ h c.self.view_is st) (view_seated _ _ c.args.task c.self.view_is c.requires.seated) seat

pub returns-clause-opened : goal.returns-clause-opened
returns-clause-opened c =
    let (h, st) = c.self.invariant in
    let seat = seat_read _ _ _ c.args.task _ c.deref.ensures.value c.seat_of.ensures.value in
    let within = own_within c.self.inside.groups.items c.self.inside.tasks.rows c.self.inside.members.items c.args.task _ h st (view_seated _ _ c.args.task c.self.view_is c.requires.seated) seat in
    subst (λ (v : GroupsView). IfSome c.group.result (λ q. q < length v.groups)) c.self.view_is (subst (λ (o : Option ℕ). IfSome o (λ q. q < length c.self.inside.groups.items)) (sym (c.group.ensures ∙ c.open_group.ensures)) within)

no_length : {X : Type 0} (xs : List X) → (length xs == 0) ≡ true → length xs ≡ 0
no_length xs none = grind (arith, nat_tests, none)

-- no group of none is named
none_of_none : (o : Option ℕ) (n : ℕ) → n ≡ 0 → IfSome o (λ q. q < n) → o ≡ None
none_of_none None n none within = refl
none_of_none (Some q) n none within = absurd (omega (arith, none, within))

pub returns-then-is_empty-clause-value : goal.returns-then-is_empty-clause-value
returns-then-is_empty-clause-value c = λ h st0.
    let st = view_stands _ _ h c.self.view_is st0 in
    let seated = view_seated _ _ c.args.task c.self.view_is c.requires.seated in
    let groups = c.self.inside.groups.items in let tasks = c.self.inside.tasks.rows in let members = c.self.inside.members.items in
    let none : length groups ≡ 0 = rw (← c.as_slice.ensures.value) (no_length c.as_slice.result.now (sym c.is_empty.ensures ∙ c.if-is_empty.true)) in
    sym (none_of_none _ (length groups) none (own_within groups tasks members c.args.task _ h st seated refl)) ∙ open_read groups tasks members c.args.task _ h st seated refl
