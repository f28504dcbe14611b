-- What a member sees that has done nothing, and what the views of seats are when one is split, and when two are joined. (own)
use Rattle.std.specs.Prelude.{◌≡◌, ℕ, true, false, List, [], ◌∷◌, ◌++◌, None}
use Rattle.gomp_events.specs.declared.seen.Seen.{Seen}
use Rattle.gomp_events.specs.Tasks.{contains}
use Rattle.gomp_shares.specs.Only.{own_of}
use Rattle.gomp_slots.specs.declared.view.View.{View}
use Rattle.gomp_slots.specs.Rule.{stands_for}

-- what a member sees that has done nothing
abbrev pub unseen : Seen
unseen = record { entered = 0; current = None; drained = false; piece = None; next_part = 0; in_part = false; leaving = false }

-- all of these members but the second
abbrev pub without_second : List ℕ → List ℕ
without_second [] = []
without_second (first ∷ []) = first ∷ []
without_second (first ∷ (second ∷ others)) = first ∷ others

-- the second alone
abbrev pub second_alone : List ℕ → List ℕ
second_alone [] = []
second_alone (first ∷ []) = []
second_alone (first ∷ (second ∷ others)) = second ∷ []

-- a seat that is split keeps all its members but the second
abbrev pub kept_view : View → View
kept_view v = record v { alone = false; mine = without_second v.mine }

-- and the new seat acts for that one
abbrev pub dealt_view : View → View
dealt_view v = record { alone = false; mine = second_alone v.mine; did = v.did; share = 0; opening = None; stored = 0; found = None }

-- the second of the members stands in the list once
abbrev pub IsSecondOnce : List ℕ → Type 0
IsSecondOnce mine = (m : ℕ) → contains m (second_alone mine) ≡ true → contains m (without_second mine) ≡ false

-- a seat that takes in another acts for the members of both, and knows what these did
abbrev pub both_view : View → View → View
both_view v w = record v { alone = false; mine = v.mine ++ w.mine; did = w.did ++ v.did }

-- the other is left with nothing
abbrev pub spent_view : View
spent_view = record { alone = false; mine = []; did = []; share = 0; opening = None; stored = 0; found = None }

-- of the events that the one seat knows none are of members of the other
pub record IsApart (v w : View) : Type 0 where
  pub left : (m : ℕ) → stands_for w m ≡ true → own_of m v.did ≡ []
  pub right : (m : ℕ) → stands_for v m ≡ true → own_of m w.did ≡ []
