-- How far a list of words is read.
use Rattle.std.proofs.Common.{ℕ, ◌≡◌, ◌≢◌, ◌+◌, ◌-◌, ◌≤◌, Bool, true, false, List, [], ◌∷◌, ◌++◌, length, take, drop, get_or, Option, Some, None, refl, sym, ap, ◌∙◌, append_assoc, arith, replicate}
use Rattle.std.specs.Option.{option_map}
use Rattle.std.specs.Prelude.{is_some, IsSomeAnd}
use Rattle.std.specs.List.{list_all}
use Rattle.std.proofs.lemmas.List.{take_all, drop-replicate, take-replicate}
use Rattle.std.proofs.Math.Seq.{take-append-add}
use Rattle.std.proofs.lemmas.Bool.Decides.{nat_tests}
use Rattle.gomp_types.specs.declared.call.Call.TheVariants.{Taskwait, TaskCreate}
use Rattle.gomp_types.specs.Copies.{CopyTakesMemory}
use Rattle.gomp_types.specs.declared.depend.Dep.{Dep}
use Rattle.gomp_types.specs.declared.depend.DepKind.{DepKind}
use Rattle.gomp_words.specs.Kinds.{dep_kind_of, flag_of}
use Rattle.gomp_words.specs.Calls.{given, items_of, task_call, is_byte, name_of}
use Rattle.gomp_words.specs.Replies.{padded}

-- the words behind the first two
pub behind_two : (a b : ℕ) (words : List ℕ) → take (length (a ∷ b ∷ words) - 2) (drop 2 (a ∷ b ∷ words)) ≡ words
behind_two a b words = take_all _ words (omega arith)

-- and behind the first four
pub behind_four : (a b d e : ℕ) (words : List ℕ) → take (length (a ∷ b ∷ d ∷ e ∷ words) - 4) (drop 4 (a ∷ b ∷ d ∷ e ∷ words)) ≡ words
behind_four a b d e words = take_all _ words (omega arith)

-- an item in front of those that words say
item_first : (found : Option DepKind) (addr : ℕ) (k : DepKind) (more : Option (List Dep)) → found ≡ Some k →
    given found (λ kind. option_map (λ items. record { kind = kind; addr = addr } ∷ items) more) ≡ option_map (λ items. record { kind = k; addr = addr } ∷ items) more
item_first found addr k more is = rw is refl

is_some_first : (found : Option DepKind) (addr : ℕ) (more : Option (List Dep)) → is_some found ≡ true →
    is_some (given found (λ kind. option_map (λ items. record { kind = kind; addr = addr } ∷ items) more)) ≡ is_some more
is_some_first None addr more is = cc
is_some_first (Some kind) addr None is = refl
is_some_first (Some kind) addr (Some more) is = refl

-- the first two words are an item, if the first is the number of a kind
item_read : (words : List ℕ) (k : DepKind) → 2 ≤ length words → dep_kind_of (get_or words 0 0) ≡ Some k →
    items_of words ≡ option_map (λ items. record { kind = k; addr = get_or words 1 0 } ∷ items) (items_of (take (length words - 2) (drop 2 words)))
item_read [] k two is = absurd (omega arith)
item_read (a ∷ []) k two is = absurd (omega arith)
item_read (a ∷ b ∷ words) k two is = rw (behind_two a b words) (item_first (dep_kind_of a) b k (items_of words) is)

-- and then whether words say items lies in the words behind these
pub is_some_read : (words : List ℕ) → 2 ≤ length words → is_some (dep_kind_of (get_or words 0 0)) ≡ true →
    is_some (items_of words) ≡ is_some (items_of (take (length words - 2) (drop 2 words)))
is_some_read [] two is = absurd (omega arith)
is_some_read (a ∷ []) two is = absurd (omega arith)
is_some_read (a ∷ b ∷ words) two is = rw (behind_two a b words) (is_some_first (dep_kind_of a) b (items_of words) is)

-- an item is put behind the others
item_put_behind : (items : List Dep) (item : Dep) (found : Option (List Dep)) →
    option_map (λ more. items ++ more) (option_map (λ more. item ∷ more) found) ≡ option_map (λ more. (items ++ item ∷ []) ++ more) found
item_put_behind items item None = refl
item_put_behind items item (Some more) = ap Some (sym (append_assoc items (item ∷ []) more))

-- one item more is read
pub item_pushed : (words rest : List ℕ) (items next : List Dep) (k : DepKind) → items_of words ≡ option_map (λ more. items ++ more) (items_of rest) →
    2 ≤ length rest → dep_kind_of (get_or rest 0 0) ≡ Some k → next ≡ items ++ record { kind = k; addr = get_or rest 1 0 } ∷ [] →
    items_of words ≡ option_map (λ more. next ++ more) (items_of (take (length rest - 2) (drop 2 rest)))
item_pushed words rest items next k before two is pushed =
    let behind : Option (List Dep) = items_of (take (length rest - 2) (drop 2 rest)) in
    before ∙ ap (λ found. option_map (λ more. items ++ more) found) (item_read rest k two is)
    ∙ item_put_behind items (record { kind = k; addr = get_or rest 1 0 }) behind
    ∙ ap (λ all. option_map (λ more. all ++ more) behind) (sym pushed)

with_item_not_empty : (items : List Dep) (item : Dep) (more : List Dep) → items ++ (item ∷ more) ≢ []
with_item_not_empty [] item more is = cc
with_item_not_empty (first ∷ items) item more is = cc

some_items : (items : List Dep) (item : Dep) (found : Option (List Dep)) → is_some found ≡ true →
    IsSomeAnd (option_map (λ more. items ++ more) (option_map (λ more. item ∷ more) found)) (λ all. all ≢ [])
some_items items item None is = cc
some_items items item (Some more) is = with_item_not_empty items item more

-- words that go on as items say some items
pub items_take_memory : (words rest : List ℕ) (items : List Dep) (k : DepKind) → items_of words ≡ option_map (λ more. items ++ more) (items_of rest) →
    2 ≤ length rest → dep_kind_of (get_or rest 0 0) ≡ Some k → is_some (items_of (take (length rest - 2) (drop 2 rest))) ≡ true →
    IsSomeAnd (items_of words) (λ all. all ≢ [])
items_take_memory words rest items k before two is goes_on =
    rw (before, item_read rest k two is) (some_items items (record { kind = k; addr = get_or rest 1 0 }) (items_of (take (length rest - 2) (drop 2 rest))) goes_on)

no_items : (items : List Dep) (item : Dep) (found : Option (List Dep)) → is_some found ≡ false →
    option_map (λ more. items ++ more) (option_map (λ more. item ∷ more) found) ≡ None
no_items items item None is = refl
no_items items item (Some more) is = cc

-- words that go on otherwise say none
pub no_items_read : (words rest : List ℕ) (items : List Dep) (k : DepKind) → items_of words ≡ option_map (λ more. items ++ more) (items_of rest) →
    2 ≤ length rest → dep_kind_of (get_or rest 0 0) ≡ Some k → is_some (items_of (take (length rest - 2) (drop 2 rest))) ≡ false →
    items_of words ≡ None
no_items_read words rest items k before two is goes_on =
    rw (before, item_read rest k two is) (no_items items (record { kind = k; addr = get_or rest 1 0 }) (items_of (take (length rest - 2) (drop 2 rest))) goes_on)

-- a wait for tasks with items
pub taskwait_takes_memory : (found : Option (List Dep)) → IsSomeAnd found (λ all. all ≢ []) → IsSomeAnd (option_map Taskwait found) CopyTakesMemory
taskwait_takes_memory None some = some
taskwait_takes_memory (Some all) some = some

with_items : (first second : Option Bool) (found : Option (List Dep)) (code arg : ℕ) (one other : Bool) → first ≡ Some one → second ≡ Some other →
    IsSomeAnd found (λ all. all ≢ []) → IsSomeAnd (given first (λ undeferred. given second (λ final_task. given found (λ items. Some (TaskCreate (record {
      code = code;
      arg = arg;
      undeferred = undeferred;
      final_task = final_task;
      deps = items;
    })))))) CopyTakesMemory
with_items None second found code arg one other is and some = cc
with_items (Some u) None found code arg one other is and some = cc
with_items (Some u) (Some f) None code arg one other is and some = some
with_items (Some u) (Some f) (Some all) code arg one other is and some = some

-- a task with items
pub task_takes_memory : (arguments : List ℕ) (undeferred final_task : Bool) → 4 ≤ length arguments →
    flag_of (get_or arguments 2 0) ≡ Some undeferred → flag_of (get_or arguments 3 0) ≡ Some final_task →
    IsSomeAnd (items_of (take (length arguments - 4) (drop 4 arguments))) (λ all. all ≢ []) → IsSomeAnd (task_call arguments) CopyTakesMemory
task_takes_memory [] undeferred final_task four first second some = absurd (omega arith)
task_takes_memory (a ∷ []) undeferred final_task four first second some = absurd (omega arith)
task_takes_memory (a ∷ b ∷ []) undeferred final_task four first second some = absurd (omega arith)
task_takes_memory (a ∷ b ∷ d ∷ []) undeferred final_task four first second some = absurd (omega arith)
task_takes_memory (a ∷ b ∷ d ∷ e ∷ words) undeferred final_task four first second some =
    with_items (flag_of d) (flag_of e) (items_of words) a b undeferred final_task first second (rw (behind_four a b d e words) at some)

-- a name of few bytes
pub name_read : (words : List ℕ) → length words ≤ 33 → list_all is_byte words ≡ true → name_of words ≡ Some words
name_read words few bytes = grind (arith, nat_tests)

-- words that fill a part of eight
pub padded_is : (words : List ℕ) → length words ≤ 8 → words ++ drop (length words) (replicate 8 0) ≡ padded words
padded_is words few =
    let left : ℕ = 8 - length words in
    let whole : length words + left ≡ 8 = omega arith in
    ap (λ zeros. words ++ zeros) (drop-replicate (length words) 8 0 ∙ sym (take-replicate left 8 0 (omega arith)))
    ∙ sym (take-append-add words (replicate 8 0) left)
    ∙ ap (λ n. take n (words ++ replicate 8 0)) whole

-- words read one after another, zeros behind the last one
pub eight_words_are : (words : List ℕ) → length words ≤ 8 →
    get_or words 0 0 ∷ get_or words 1 0 ∷ get_or words 2 0 ∷ get_or words 3 0 ∷ get_or words 4 0 ∷ get_or words 5 0 ∷ get_or words 6 0 ∷ get_or words 7 0 ∷ [] ≡ padded words
eight_words_are [] few = refl
eight_words_are (a ∷ []) few = refl
eight_words_are (a ∷ b ∷ []) few = refl
eight_words_are (a ∷ b ∷ d ∷ []) few = refl
eight_words_are (a ∷ b ∷ d ∷ e ∷ []) few = refl
eight_words_are (a ∷ b ∷ d ∷ e ∷ f ∷ []) few = refl
eight_words_are (a ∷ b ∷ d ∷ e ∷ f ∷ g ∷ []) few = refl
eight_words_are (a ∷ b ∷ d ∷ e ∷ f ∷ g ∷ h ∷ []) few = refl
eight_words_are (a ∷ b ∷ d ∷ e ∷ f ∷ g ∷ h ∷ i ∷ []) few = refl
eight_words_are (a ∷ b ∷ d ∷ e ∷ f ∷ g ∷ h ∷ i ∷ j ∷ words) few = absurd (omega arith)
