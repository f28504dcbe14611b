use Rattle.std.proofs.Common.{◌+◌, ◌∙◌, ℕ, true, false, take, ap, sym, subst, arith, inl, inr}
use Rattle.std.specs.Prelude.{IfSome}
use Rattle.std.specs.List.{concat}
use Rattle.gomp_events.specs.Tasks.{contains}
use Rattle.gomp_types.proofs.Booleans.{or_tells}
use Rattle.gomp_events.proofs.TaskStacks.{contains_in_either}
use Rattle.gomp_ready.specs.Marks.{lowered}
use Rattle.gomp_ready.proofs.InOrder.{more_behind}
use Rattle.gomp_ready.proofs.Looked.{front_before, lower_front, seen_up_to, none_listed, at_its_place, place_in_list, in_whole_list}
use Rattle.gomp_ready.proofs.Passed.{removed_at}
use Rattle.gomp_ready.proofs.stages.take_further.Goals as goal

pub returns-in-Some-clause-tasks : goal.returns-in-Some-clause-tasks
returns-in-Some-clause-tasks g c =
    let list = c.args.list.now.items in
    let place = place_in_list list c.args.from c.args.listed c.in-Some.place c.in-Some.ensures.first.0 in
    more_behind list c.take_listed.new.list.items (concat c.args.deques.now.items) c.take_listed.result.task (removed_at list c.take_listed.new.list.items (c.args.from + c.in-Some.place) c.take_listed.result.task place c.take_listed.ensures.task c.take_listed.ensures.items)

pub returns-in-Some-clause-may : goal.returns-in-Some-clause-may
returns-in-Some-clause-may g c =
    let first = c.in-Some.ensures.first in
    let there = at_its_place c.args.list.now.items c.args.from c.args.listed c.in-Some.place 0 first.0 in
    subst (λ found. IfSome found (λ t. goal.F-post g c.args.may.now t true)) (sym (c.take_listed.ensures.task 0)) (subst (λ t. goal.F-post g c.args.may.now t true) there (first.1 0))

pub returns-in-Some-clause-none : goal.returns-in-Some-clause-none
returns-in-Some-clause-none g c none = absurd (let e = sym (c.take_listed.ensures.task 0) ∙ none in cc)

pub returns-in-Some-clause-all : goal.returns-in-Some-clause-all
returns-in-Some-clause-all g c none = absurd (let e = sym (c.take_listed.ensures.task 0) ∙ none in cc)

pub returns-in-Some-clause-kept : goal.returns-in-Some-clause-kept
returns-in-Some-clause-kept g c none = absurd (let e = sym (c.take_listed.ensures.task 0) ∙ none in cc)

pub returns-in-Some-clause-looked : goal.returns-in-Some-clause-looked
returns-in-Some-clause-looked g c t there =
    let list = c.args.list.now.items in
    let first = c.in-Some.ensures.first in
    let place = c.args.from + c.in-Some.place in
    let within = place_in_list list c.args.from c.args.listed c.in-Some.place first.0 in
    let front = ap (λ n. take n c.take_listed.new.list.items) c.take_listed.ensures.passed ∙ ap (take place) c.take_listed.ensures.items ∙ front_before list place (omega (arith, within)) in
    seen_up_to (λ u. goal.F-post g c.args.may.now u false) list c.args.from c.args.listed c.in-Some.place c.requires.seen (omega (arith, first.0)) first.2 t (ap (contains t) (sym front) ∙ there)

pub returns-in-Some-clause-fronts : goal.returns-in-Some-clause-fronts
returns-in-Some-clause-fronts g c mark within t there =
    let place = c.args.from + c.in-Some.place in
    let lower = ap (λ b. contains t (take (lowered b mark) c.take_listed.new.list.items)) (sym c.take_listed.ensures.listed) ∙ there in
    lower_front c.args.list.now.items place mark t (ap (λ xs. contains t (take (lowered true mark) xs)) (sym c.take_listed.ensures.items) ∙ lower)

pub returns-clause-none : goal.returns-clause-none
returns-clause-none g c none t there =
    let list = c.args.list.now.items in
    let Refused = λ (u : ℕ). goal.F-post g c.args.may.now u false in
    elim (or_tells (contains t list) (contains t (concat c.args.deques.now.items)) (sym (contains_in_either t list (concat c.args.deques.now.items)) ∙ there)) [
      | inl listed ↦ elim (c.requires.behind t listed) [
        | inl front ↦ none_listed Refused list c.args.from c.args.listed c.requires.places.0 c.requires.places.1 c.requires.seen c.in_default.ensures.first t front
        | inr refused ↦ refused
      ]
      | inr stands ↦ c.take_elsewhere-task.ensures.none none t stands
    ]

pub returns-clause-looked : goal.returns-clause-looked
returns-clause-looked g c t there =
    let list = c.args.list.now.items in
    let Refused = λ (u : ℕ). goal.F-post g c.args.may.now u false in
    elim (c.take_elsewhere-task.ensures.looked t (in_whole_list c.len.result c.take_elsewhere-task.new.list.items t there)) [
      | inl before ↦ elim (c.requires.behind t before) [
        | inl front ↦ none_listed Refused list c.args.from c.args.listed c.requires.places.0 c.requires.places.1 c.requires.seen c.in_default.ensures.first t front
        | inr refused ↦ refused
      ]
      | inr refused ↦ refused
    ]
