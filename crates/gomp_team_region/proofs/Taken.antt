-- Parts that are given and taken back, one after the other.
use Rattle.std.proofs.Common.{ℕ, ◌≡◌, ◌+◌, ◌++◌, List, [], ◌∷◌, map, sum_by, refl, ap, sym, ◌∙◌, arith, reverse, length, subst}
use Rattle.std.proofs.lemmas.List.{append_assoc, length-map, length_push, map-append, reverse-append}
use Rattle.std.proofs.lemmas.List.Sums.{sum_by_push, sum_by-cons}
use Rattle.gomp_team.specs.Members.{TeamView, MemberView}
use Rattle.gomp_team_board.specs.Parts.{PartView, new_part, merged_part}
use Rattle.gomp_team_book.specs.Parts.{BookPartView, new_book_part, merged_book_part}
use Rattle.gomp_team_region.specs.Regions.{IsNewMember, AreNewMembers, GivesParts, events_parts, held_parts, freed_parts, with_parts, with_book_parts}

-- a part that is taken in first, and then the others
pub taken_first : (part other : PartView) (parts : List PartView) → with_parts (merged_part part other) parts ≡ with_parts part (parts ++ other ∷ [])
taken_first part other parts =
    let more : part.parts + other.parts + sum_by (λ p. p.parts) parts ≡ part.parts + sum_by (λ p. p.parts) (parts ++ other ∷ []) = omega (arith, sum_by_push (λ (p : PartView). p.parts) parts other) in
    let amount : part.amount + other.amount + sum_by (λ p. p.amount) parts ≡ part.amount + sum_by (λ p. p.amount) (parts ++ other ∷ []) = omega (arith, sum_by_push (λ (p : PartView). p.amount) parts other) in
    rw (more, amount) refl

pub book_part_taken_first : (part other : BookPartView) (parts : List BookPartView) → with_book_parts (merged_book_part part other) parts ≡ with_book_parts part (parts ++ other ∷ [])
book_part_taken_first part other parts =
    let more : part.parts + other.parts + sum_by (λ p. p.parts) parts ≡ part.parts + sum_by (λ p. p.parts) (parts ++ other ∷ []) = omega (arith, sum_by_push (λ (p : BookPartView). p.parts) parts other) in
    let amount : part.amount + other.amount + sum_by (λ p. p.amount) parts ≡ part.amount + sum_by (λ p. p.amount) (parts ++ other ∷ []) = omega (arith, sum_by_push (λ (p : BookPartView). p.amount) parts other) in
    rw (more, amount) refl

-- none are taken in
pub no_part_taken : (part : PartView) → with_parts part [] ≡ part
no_part_taken part =
    let more : part.parts + 0 ≡ part.parts = omega arith in
    let amount : part.amount + 0 ≡ part.amount = omega arith in
    rw (more, amount) refl

pub no_book_part_taken : (part : BookPartView) → with_book_parts part [] ≡ part
no_book_part_taken part =
    let more : part.parts + 0 ≡ part.parts = omega arith in
    let amount : part.amount + 0 ≡ part.amount = omega arith in
    rw (more, amount) refl

-- what the last of a list is
pub last_mapped : {X Y : Type 0} (f : X → Y) (xs ys : List X) (x : X) → ys ≡ xs ++ x ∷ [] → map f ys ≡ map f xs ++ f x ∷ []
last_mapped f xs ys x is = ap (map f) is ∙ map-append f xs (x ∷ [])

pub last_reversed : {X : Type 0} (xs : List X) (x : X) → reverse (xs ++ x ∷ []) ≡ x ∷ reverse xs
last_reversed xs x = reverse-append xs (x ∷ [])

-- one more member
pub one_more_member : {T : Type 0} (team : TeamView) (m : ℕ) (members : List (MemberView T)) (member : MemberView T)
    → AreNewMembers team m members → IsNewMember team (m + length members) member → AreNewMembers team m (members ++ member ∷ [])
one_more_member team m [] member first new =
    let here : m + 0 ≡ m = omega arith in
    (subst (λ k. IsNewMember team k member) here new, tt)
one_more_member team m (first ∷ members) member (new, others) last =
    let number : m + length (first ∷ members) ≡ m + 1 + length members = omega arith in
    (new, one_more_member team (m + 1) members member others (subst (λ k. IsNewMember team k member) number last))

-- Of a member that is taken back: the last of them

pub part_taken_back : {T : Type 0} (rest taken part whole : PartView) (before after : List (MemberView T)) (member : MemberView T)
    → before ≡ after ++ member ∷ [] → taken ≡ merged_part rest part → part ≡ member.events → with_parts rest (events_parts before) ≡ whole
    → with_parts taken (events_parts after) ≡ whole
part_taken_back rest taken part whole before after member is takes has held =
    ap (λ new. with_parts new (events_parts after)) (takes ∙ ap (merged_part rest) has) ∙ (taken_first rest member.events (events_parts after)
    ∙ (ap (with_parts rest) (sym (last_mapped (λ other. other.events) after before member is)) ∙ held))

pub book_part_taken_back : {T : Type 0} (of : MemberView T → BookPartView) (rest taken part whole : BookPartView) (before after : List (MemberView T)) (member : MemberView T)
    → before ≡ after ++ member ∷ [] → taken ≡ merged_book_part rest part → part ≡ of member → with_book_parts rest (map of before) ≡ whole
    → with_book_parts taken (map of after) ≡ whole
book_part_taken_back of rest taken part whole before after member is takes has held =
    ap (λ new. with_book_parts new (map of after)) (takes ∙ ap (merged_book_part rest) has) ∙ (book_part_taken_first rest (of member) (map of after)
    ∙ (ap (with_book_parts rest) (sym (last_mapped of after before member is)) ∙ held))

pub item_taken_back : {X Y : Type 0} (of : X → Y) (old new whole : List Y) (item : Y) (before after : List X) (last : X)
    → before ≡ after ++ last ∷ [] → new ≡ old ++ item ∷ [] → item ≡ of last → old ++ reverse (map of before) ≡ whole
    → new ++ reverse (map of after) ≡ whole
item_taken_back of old new whole item before after last is puts has held =
    let reversed : reverse (map of before) ≡ of last ∷ reverse (map of after) = ap reverse (last_mapped of after before last is) ∙ last_reversed (map of after) (of last) in
    ap (λ items. items ++ reverse (map of after)) (puts ∙ ap (λ it. old ++ it ∷ []) has) ∙ (append_assoc old (of last ∷ []) (reverse (map of after))
    ∙ (ap (λ items. old ++ items) (sym reversed) ∙ held))

-- Of a member that is made: the next one

pub member_opened : {T : Type 0} (team : TeamView) (number : ℕ) (before after : List (MemberView T)) (member : MemberView T)
    → after ≡ before ++ member ∷ [] → length before ≡ number → AreNewMembers team 0 before → IsNewMember team number member → AreNewMembers team 0 after
member_opened team number before after member is many news new =
    let here : number ≡ 0 + length before = omega (arith, many) in
    subst (λ members. AreNewMembers team 0 members) (sym is) (one_more_member team 0 before member news (subst (λ k. IsNewMember team k member) here new))

pub number_opened : {X : Type 0} (number : ℕ) (before after : List X) (last : X) → after ≡ before ++ last ∷ [] → length before ≡ number → length after ≡ number + 1
number_opened number before after last is many = ap length is ∙ (length_push before last ∙ ap (λ n. n + 1) many)

pub part_opened : {T : Type 0} (rest given whole : PartView) (before after : List (MemberView T)) (member : MemberView T)
    → after ≡ before ++ member ∷ [] → merged_part given member.events ≡ rest → with_parts rest (events_parts before) ≡ whole → with_parts given (events_parts after) ≡ whole
part_opened rest given whole before after member is gives held =
    ap (with_parts given) (last_mapped (λ other. other.events) before after member is) ∙ (sym (taken_first given member.events (events_parts before))
    ∙ (ap (λ part. with_parts part (events_parts before)) gives ∙ held))

pub book_part_opened : {T : Type 0} (of : MemberView T → BookPartView) (rest given whole : BookPartView) (before after : List (MemberView T)) (member : MemberView T)
    → after ≡ before ++ member ∷ [] → merged_book_part given (of member) ≡ rest → with_book_parts rest (map of before) ≡ whole → with_book_parts given (map of after) ≡ whole
book_part_opened of rest given whole before after member is gives held =
    ap (with_book_parts given) (last_mapped of before after member is) ∙ (sym (book_part_taken_first given (of member) (map of before))
    ∙ (ap (λ part. with_book_parts part (map of before)) gives ∙ held))

pub item_opened : {X Y : Type 0} (of : X → Y) (older newer whole : List Y) (item : Y) (before after : List X) (last : X)
    → after ≡ before ++ last ∷ [] → older ≡ newer ++ item ∷ [] → of last ≡ item → map of before ++ reverse older ≡ whole
    → map of after ++ reverse newer ≡ whole
item_opened of older newer whole item before after last is takes has held =
    let mapped : map of after ≡ map of before ++ item ∷ [] = last_mapped of before after last is ∙ ap (λ it. map of before ++ it ∷ []) has in
    let reversed : reverse older ≡ item ∷ reverse newer = ap reverse takes ∙ last_reversed newer item in
    ap (λ items. items ++ reverse newer) mapped ∙ (append_assoc (map of before) (item ∷ []) (reverse newer)
    ∙ (ap (λ items. map of before ++ items) (sym reversed) ∙ held))

-- one part is given away
pub one_part_left : (rest given part : PartView) → merged_part given part ≡ rest → part ≡ new_part 1 0 → given.parts + 1 ≡ rest.parts
one_part_left rest given part gives one = ap (λ p. given.parts + p.parts) (sym one) ∙ ap (λ p. p.parts) gives

pub one_book_part_left : (rest given part : BookPartView) → merged_book_part given part ≡ rest → part ≡ new_book_part 1 → given.parts + 1 ≡ rest.parts
one_book_part_left rest given part gives one = ap (λ p. given.parts + p.parts) (sym one) ∙ ap (λ p. p.parts) gives

-- What new members have together

new_events : {T : Type 0} (team : TeamView) (m : ℕ) (members : List (MemberView T)) → AreNewMembers team m members
    → (sum_by (λ part. part.parts) (events_parts members) ≡ length members) × (sum_by (λ part. part.amount) (events_parts members) ≡ 0)
new_events team m [] news = (refl, refl)
new_events team m (member ∷ members) (new, others) =
    let rest = new_events team (m + 1) members others in
    let one : member.events.parts ≡ 1 = ap (λ p. p.parts) new.events in
    let none : member.events.amount ≡ 0 = ap (λ p. p.amount) new.events in (
      sum_by-cons (λ (p : PartView). p.parts) member.events (events_parts members) ∙ omega (arith, one, rest.0),
      sum_by-cons (λ (p : PartView). p.amount) member.events (events_parts members) ∙ omega (arith, none, rest.1),
    )

-- a part of the book's ledgers that each of these members has is a new one
abbrev AreNewParts : List BookPartView → Type 0
AreNewParts [] = Unit {0}
AreNewParts (part ∷ parts) = (part ≡ new_book_part 1) × AreNewParts parts

new_book_parts : (parts : List BookPartView) → AreNewParts parts → (sum_by (λ part. part.parts) parts ≡ length parts) × (sum_by (λ part. part.amount) parts ≡ 0)
new_book_parts [] news = (refl, refl)
new_book_parts (part ∷ parts) (new, others) =
    let rest = new_book_parts parts others in
    let one : part.parts ≡ 1 = ap (λ p. p.parts) new in
    let none : part.amount ≡ 0 = ap (λ p. p.amount) new in (
      sum_by-cons (λ (p : BookPartView). p.parts) part parts ∙ omega (arith, one, rest.0),
      sum_by-cons (λ (p : BookPartView). p.amount) part parts ∙ omega (arith, none, rest.1),
    )

held_are_new : {T : Type 0} (team : TeamView) (m : ℕ) (members : List (MemberView T)) → AreNewMembers team m members → AreNewParts (held_parts members)
held_are_new team m [] news = tt
held_are_new team m (member ∷ members) (new, others) = (new.held, held_are_new team (m + 1) members others)

freed_are_new : {T : Type 0} (team : TeamView) (m : ℕ) (members : List (MemberView T)) → AreNewMembers team m members → AreNewParts (freed_parts members)
freed_are_new team m [] news = tt
freed_are_new team m (member ∷ members) (new, others) = (new.freed, freed_are_new team (m + 1) members others)

-- so many were given away
pub events_given_away : {T : Type 0} (team : TeamView) (before after : PartView) (members : List (MemberView T)) (many : ℕ)
    → AreNewMembers team 0 members → with_parts after (events_parts members) ≡ before → length members ≡ many
    → (after.parts + many ≡ before.parts) × (after.amount ≡ before.amount)
events_given_away team before after members many news gives count =
    let sums = new_events team 0 members news in
    let parts : after.parts + sum_by (λ part. part.parts) (events_parts members) ≡ before.parts = ap (λ p. p.parts) gives in
    let amount : after.amount + sum_by (λ part. part.amount) (events_parts members) ≡ before.amount = ap (λ p. p.amount) gives in
    (omega (arith, parts, sums.0, count), omega (arith, amount, sums.1))

given_away : (before after : BookPartView) (parts : List BookPartView) (many : ℕ) → AreNewParts parts → with_book_parts after parts ≡ before → length parts ≡ many → GivesParts many before after
given_away before after parts many news gives count =
    let sums = new_book_parts parts news in
    let more : after.parts + sum_by (λ part. part.parts) parts ≡ before.parts = ap (λ p. p.parts) gives in
    let amount : after.amount + sum_by (λ part. part.amount) parts ≡ before.amount = ap (λ p. p.amount) gives in
    record { parts = omega (arith, more, sums.0, count); amount = omega (arith, amount, sums.1) }

pub holds_given_away : {T : Type 0} (team : TeamView) (before after : BookPartView) (members : List (MemberView T)) (many : ℕ)
    → AreNewMembers team 0 members → with_book_parts after (held_parts members) ≡ before → length members ≡ many → GivesParts many before after
holds_given_away team before after members many news gives count =
    given_away before after (held_parts members) many (held_are_new team 0 members news) gives (length-map members (λ member. member.held) ∙ count)

pub releases_given_away : {T : Type 0} (team : TeamView) (before after : BookPartView) (members : List (MemberView T)) (many : ℕ)
    → AreNewMembers team 0 members → with_book_parts after (freed_parts members) ≡ before → length members ≡ many → GivesParts many before after
releases_given_away team before after members many news gives count =
    given_away before after (freed_parts members) many (freed_are_new team 0 members news) gives (length-map members (λ member. member.freed) ∙ count)
