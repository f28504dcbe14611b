-- A board for which no event stands has stored none.
use Rattle.std.proofs.Common.{◌≡◌, List, [], sym, ap, ◌∙◌, reverse}
use Rattle.std.proofs.lemmas.List.{reverse-reverse}
use Rattle.gomp_events.specs.declared.event.Event.{Event}

-- a list whose reverse is empty is empty
pub reversed_none_is_none : (history : List Event) → [] ≡ reverse history → history ≡ []
reversed_none_is_none history none = sym (reverse-reverse history) ∙ ap (λ (events : List Event). reverse events) (sym none)
