-- What the marks say of groups.
use Rattle.std.proofs.Common.{◌≡◌, ℕ, Bool, false, List, [], ◌∷◌, refl, ap, ◌∙◌, sym}
use Rattle.std.specs.Prelude.{◌||◌}
use Rattle.gomp_events.specs.declared.event.Event.{Event}
use Rattle.gomp_events.specs.Cancels.{is_cancelled, some_cancelled}
use Rattle.gomp_groups.specs.Rows.{some_marked}
use Rattle.gomp_cancel.specs.Cancellations.{CancelView, CancelStands}

-- one of these groups has its mark exactly if one of them is cancelled
pub marks_tell : (cancelled : CancelView) (h : List Event) (qs : List ℕ) → CancelStands cancelled h → some_marked cancelled.marks qs ≡ some_cancelled qs h
marks_tell cancelled h [] st = refl
marks_tell cancelled h (q ∷ qs) st = rw (st.marked q, marks_tell cancelled h qs st) refl

-- so while the region is not cancelled, a task is if one of the groups around it has its mark
pub marks_answer : (inside cancelled : CancelView) (marks : List Bool) (h : List Event) (qs : List ℕ) (found : Bool) → CancelStands cancelled h → inside ≡ cancelled → inside.region ≡ false → marks ≡ inside.marks → found ≡ some_marked marks qs → found ≡ (is_cancelled h || some_cancelled qs h)
marks_answer inside cancelled marks h qs found st same none there is =
    let region : cancelled.region ≡ false = ap (λ (v : CancelView). v.region) (sym same) ∙ none in
    let marks_is : marks ≡ cancelled.marks = there ∙ ap (λ (v : CancelView). v.marks) same in
    is ∙ rw (st.region, region, marks_is) (marks_tell cancelled h qs st)
