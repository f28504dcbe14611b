-- Words that say a call are the words of that call, and no others.
use Rattle.std.proofs.Common.{ℕ, ◌≡◌, ◌<◌, ◌^◌, Bool, true, false, List, [], ◌∷◌, length, Option, Some, None, refl, sym, ◌∙◌, ap, subst, suc, lit<, arith, w64}
use Rattle.std.proofs.lemmas.Int.{of_z-to_z}
use Rattle.std.proofs.lemmas.Bool.{eqb-true}
use Rattle.std.specs.Prelude.{◌==◌, ◌&&◌, nat_lt, nat_le, if◌then◌else◌}
use Rattle.std.specs.List.{list_all, find, All}
use Rattle.std.specs.Int.{cast_signed, from_bool}
use Rattle.std.specs.Option.{option_map}
use Rattle.gomp_types.specs.declared.call.Call.{Call}
use Rattle.gomp_types.specs.declared.call.Call.TheVariants.{LoopStart, SectionsStart, SingleCopyEnd, OrderedStart, TaskCreate, Taskwait, Cancel, Point}
use Rattle.gomp_types.specs.declared.depend.Dep.{Dep}
use Rattle.gomp_types.specs.declared.depend.DepKind.{DepKind}
use Rattle.gomp_types.specs.declared.depend.DepKind.TheVariants.{DepIn, DepOut, DepInout, DepInoutset, DepMutex}
use Rattle.gomp_types.specs.declared.loop_desc.Sched.{Sched}
use Rattle.gomp_types.specs.declared.loop_desc.Sched.TheVariants.{Static, Dynamic, Guided, Runtime}
use Rattle.gomp_types.specs.declared.loop_desc.EndKind.{EndKind}
use Rattle.gomp_types.specs.declared.loop_desc.EndKind.TheVariants as ends
use Rattle.gomp_types.specs.declared.cancel.CancelKind.{CancelKind}
use Rattle.gomp_types.specs.declared.cancel.CancelKind.TheVariants as cancels
use Rattle.gomp_types.specs.DependItems.{kind_number}
use Rattle.gomp_words.specs.Kinds.{sched_number, end_number, cancel_number, with_number, sched_of, end_of, cancel_of, dep_kind_of, flag_of}
use Rattle.gomp_words.specs.Calls.{words_of, call_of, call_table, given, alone, item_words, items_of, lock_of, lock_call, named_call, is_byte, loop_call, sections_call, copy_call, ordered_call, task_call, taskwait_call, cancel_call, point_call}

-- a word is a number of 64 bits
abbrev pub IsWord : ℕ → Type 0
IsWord word = word < 2 ^ 64

-- a row of the table of calls reads no words but those of the call
abbrev pub IsExact : ℕ × (List ℕ → Option Call) → Type 0
IsExact row = (arguments : List ℕ) (call : Call) → All IsWord arguments → row.1 arguments ≡ Some call → words_of call ≡ row.0 ∷ arguments

found_or : {A : Type 0} (number_of : A → ℕ) (all : List A) (n : ℕ) (one x : A) (hit : Bool) → (hit ≡ true → number_of x ≡ n) →
    (with_number number_of all n ≡ Some one → number_of one ≡ n) → (if hit then Some x else with_number number_of all n) ≡ Some one → number_of one ≡ n
found_or number_of all n one x true same later is = let e : x ≡ one = cc in ap number_of (sym e) ∙ same refl
found_or number_of all n one x false same later is = later is

-- what is found by a number has it
number_found : {A : Type 0} (number_of : A → ℕ) (all : List A) (n : ℕ) (one : A) → with_number number_of all n ≡ Some one → number_of one ≡ n
number_found number_of [] n one is = cc
number_found number_of (x ∷ all) n one is = found_or number_of all n one x (number_of x == n) (λ e. eqb-true (number_of x) n e) (number_found number_of all n one) is

sched_exact : (n : ℕ) (sched : Sched) → sched_of n ≡ Some sched → sched_number sched ≡ n
sched_exact = number_found sched_number (Runtime ∷ Static ∷ Dynamic ∷ Guided ∷ [])

flag_exact : (n : ℕ) (flag : Bool) → flag_of n ≡ Some flag → from_bool flag ≡ n
flag_exact = number_found from_bool (false ∷ true ∷ [])

end_exact : (n : ℕ) (end_kind : EndKind) → end_of n ≡ Some end_kind → end_number end_kind ≡ n
end_exact = number_found end_number (ends.Wait ∷ ends.Nowait ∷ ends.Cancellable ∷ [])

cancel_exact : (n : ℕ) (kind : CancelKind) → cancel_of n ≡ Some kind → cancel_number kind ≡ n
cancel_exact = number_found cancel_number (cancels.Parallel ∷ cancels.Loop ∷ cancels.Sections ∷ cancels.Taskgroup ∷ [])

dep_kind_exact : (n : ℕ) (kind : DepKind) → dep_kind_of n ≡ Some kind → kind_number kind ≡ n
dep_kind_exact = number_found kind_number (DepIn ∷ DepOut ∷ DepInout ∷ DepInoutset ∷ DepMutex ∷ [])

-- a part that something follows from is there
given_some : {A B : Type 0} (part : Option A) (rest : A → Option B) (one : B) → given part rest ≡ Some one → (a : A) × (part ≡ Some a) × (rest a ≡ Some one)
given_some None rest one is = cc
given_some (Some a) rest one is = (a, refl, is)

mapped_some : {A B : Type 0} (f : A → B) (part : Option A) (one : B) → option_map f part ≡ Some one → (a : A) × (part ≡ Some a) × (f a ≡ one)
mapped_some f None one is = cc
mapped_some f (Some a) one is = (a, refl, cc)

-- what is kept by a test is what was tested_some
kept_some : {A : Type 0} (test : Bool) (x one : A) → (if test then Some x else None) ≡ Some one → x ≡ one
kept_some true x one is = cc
kept_some false x one is = cc

alone_exact : (said : Call) (n : ℕ) → words_of said ≡ n ∷ [] → IsExact (n, alone said)
alone_exact said n words [] call fit is = let e : said ≡ call = cc in ap words_of (sym e) ∙ words
alone_exact said n words (x ∷ arguments) call fit is = cc

lock_exact : (make : ℕ → Call) (n : ℕ) → ((lock : ℕ) → words_of (make lock) ≡ n ∷ lock ∷ []) → IsExact (n, lock_call make)
lock_exact make n words [] call fit is = cc
lock_exact make n words (lock ∷ []) call fit is =
    let found = mapped_some make (lock_of (lock ∷ [])) call is in
    let e : lock ≡ found.0 = kept_some (nat_lt lock (2 ^ 32)) lock found.0 found.1 in
    ap words_of (sym found.2) ∙ words found.0 ∙ ap (λ l. n ∷ l ∷ []) (sym e)
lock_exact make n words (lock ∷ x ∷ arguments) call fit is = cc

-- a call whose arguments are kept as they are, if a test lets them be
kept_exact : (make : List ℕ → Call) (n : ℕ) (test : List ℕ → Bool) → ((words : List ℕ) → words_of (make words) ≡ n ∷ words) →
    IsExact (n, λ words. option_map make (if test words then Some words else None))
kept_exact make n test words arguments call fit is =
    let found = mapped_some make (if test arguments then Some arguments else None) call is in
    let e : arguments ≡ found.0 = kept_some (test arguments) arguments found.0 found.1 in
    ap words_of (sym found.2) ∙ words found.0 ∙ ap (λ a. n ∷ a) (sym e)

ordered_exact : IsExact (14, ordered_call)
ordered_exact [] call fit is = cc
ordered_exact (value ∷ []) call fit is =
    let e : OrderedStart (cast_signed w64 value) ≡ call = cc in ap words_of (sym e) ∙ ap (λ v. 14 ∷ v ∷ []) (of_z-to_z w64 value (fit 0 0 (lit< tt)))
ordered_exact (value ∷ x ∷ arguments) call fit is = cc

tested_some : {B : Type 0} (test : Bool) (part : Option B) (one : B) → (if test then part else None) ≡ Some one → part ≡ Some one
tested_some true part one is = is
tested_some false part one is = cc

sections_exact : IsExact (6, sections_call)
sections_exact [] call fit is = cc
sections_exact (count ∷ []) call fit is = cc
sections_exact (count ∷ n ∷ []) call fit is =
    let found = given_some (end_of n) (λ end_kind. Some (SectionsStart count end_kind)) call (tested_some (nat_lt count (2 ^ 32)) _ call is) in
    let e : SectionsStart count found.0 ≡ call = let h = found.2 in cc in
    ap words_of (sym e) ∙ ap (λ k. 6 ∷ count ∷ k ∷ []) (end_exact n found.0 found.1)
sections_exact (count ∷ n ∷ x ∷ arguments) call fit is = cc

items_exact : (words : List ℕ) (items : List Dep) → items_of words ≡ Some items → item_words items ≡ words
items_exact [] items is = let e : [] ≡ items = cc in ap item_words (sym e)
items_exact (kind ∷ []) items is = cc
items_exact (kind ∷ addr ∷ words) items is =
    let found = given_some (dep_kind_of kind) (λ kind. option_map (λ items. record { kind = kind; addr = addr } ∷ items) (items_of words)) items is in
    let more = mapped_some (λ items. record { kind = found.0; addr = addr } ∷ items) (items_of words) items found.2 in
    ap item_words (sym more.2) ∙ ap (λ k. k ∷ addr ∷ item_words more.0) (dep_kind_exact kind found.0 found.1)
    ∙ ap (λ words. kind ∷ addr ∷ words) (items_exact words more.0 more.1)

taskwait_exact : IsExact (31, taskwait_call)
taskwait_exact arguments call fit is =
    let found = mapped_some Taskwait (items_of arguments) call is in
    ap words_of (sym found.2) ∙ ap (λ words. 31 ∷ words) (items_exact arguments found.0 found.1)

cancel_call_exact : IsExact (34, cancel_call)
cancel_call_exact [] call fit is = cc
cancel_call_exact (kind ∷ []) call fit is = cc
cancel_call_exact (kind ∷ clause ∷ []) call fit is =
    let found = given_some (cancel_of kind) (λ kind. given (flag_of clause) (λ clause. Some (Cancel kind clause))) call is in
    let flag = given_some (flag_of clause) (λ clause. Some (Cancel found.0 clause)) call found.2 in
    let e : Cancel found.0 flag.0 ≡ call = let h = flag.2 in cc in
    ap words_of (sym e) ∙ ap (λ k. 34 ∷ k ∷ from_bool flag.0 ∷ []) (cancel_exact kind found.0 found.1)
    ∙ ap (λ c. 34 ∷ kind ∷ c ∷ []) (flag_exact clause flag.0 flag.1)
cancel_call_exact (kind ∷ clause ∷ x ∷ arguments) call fit is = cc

point_exact : IsExact (35, point_call)
point_exact [] call fit is = cc
point_exact (kind ∷ []) call fit is =
    let found = mapped_some Point (cancel_of kind) call is in
    ap words_of (sym found.2) ∙ ap (λ k. 35 ∷ k ∷ []) (cancel_exact kind found.0 found.1)
point_exact (kind ∷ x ∷ arguments) call fit is = cc

task_exact : IsExact (29, task_call)
task_exact [] call fit is = cc
task_exact (code ∷ []) call fit is = cc
task_exact (code ∷ arg ∷ []) call fit is = cc
task_exact (code ∷ arg ∷ u ∷ []) call fit is = cc
task_exact (code ∷ arg ∷ u ∷ f ∷ items) call fit is =
    let make : Bool → Bool → List Dep → Call = λ u f items. TaskCreate (record { code = code; arg = arg; undeferred = u; final_task = f; deps = items }) in
    let one = given_some (flag_of u) (λ u. given (flag_of f) (λ f. given (items_of items) (λ items. Some (make u f items)))) call is in
    let two = given_some (flag_of f) (λ f. given (items_of items) (λ items. Some (make one.0 f items))) call one.2 in
    let all = given_some (items_of items) (λ items. Some (make one.0 two.0 items)) call two.2 in
    let e : make one.0 two.0 all.0 ≡ call = let h = all.2 in cc in
    ap words_of (sym e) ∙ ap (λ u. 29 ∷ code ∷ arg ∷ u ∷ from_bool two.0 ∷ item_words all.0) (flag_exact u one.0 one.1)
    ∙ ap (λ f. 29 ∷ code ∷ arg ∷ u ∷ f ∷ item_words all.0) (flag_exact f two.0 two.1)
    ∙ ap (λ words. 29 ∷ code ∷ arg ∷ u ∷ f ∷ words) (items_exact items all.0 all.1)

loop_exact : IsExact (1, loop_call)
loop_exact [] call fit is = cc
loop_exact (a ∷ []) call fit is = cc
loop_exact (a ∷ b ∷ []) call fit is = cc
loop_exact (a ∷ b ∷ d ∷ []) call fit is = cc
loop_exact (a ∷ b ∷ d ∷ e ∷ []) call fit is = cc
loop_exact (a ∷ b ∷ d ∷ e ∷ f ∷ []) call fit is = cc
loop_exact (a ∷ b ∷ d ∷ e ∷ f ∷ g ∷ []) call fit is = cc
loop_exact (start ∷ end ∷ incr ∷ chunk ∷ s ∷ o ∷ k ∷ []) call fit is =
    let make : Sched → Bool → EndKind → Call = λ s o k. LoopStart (record {
      start = cast_signed w64 start;
      end = cast_signed w64 end;
      incr = cast_signed w64 incr;
      sched = s;
      chunk = cast_signed w64 chunk;
      ordered = o;
      end_kind = k;
    }) in
    let one = given_some (sched_of s) (λ s. given (flag_of o) (λ o. given (end_of k) (λ k. Some (make s o k)))) call is in
    let two = given_some (flag_of o) (λ o. given (end_of k) (λ k. Some (make one.0 o k))) call one.2 in
    let all = given_some (end_of k) (λ k. Some (make one.0 two.0 k)) call two.2 in
    let e : make one.0 two.0 all.0 ≡ call = let h = all.2 in cc in
    ap words_of (sym e)
    ∙ rw (
      of_z-to_z w64 start (fit 0 0 (lit< tt)),
      of_z-to_z w64 end (fit 1 0 (lit< tt)),
      of_z-to_z w64 incr (fit 2 0 (lit< tt)),
      of_z-to_z w64 chunk (fit 3 0 (lit< tt)),
      sched_exact s one.0 one.1,
      flag_exact o two.0 two.1,
      end_exact k all.0 all.1,
    ) refl
loop_exact (a ∷ b ∷ d ∷ e ∷ f ∷ g ∷ i ∷ j ∷ arguments) call fit is = cc

-- each row of a table is exact
abbrev AreExact : List (ℕ × (List ℕ → Option Call)) → Type 0
AreExact [] = Unit {0}
AreExact (row ∷ rows) = IsExact row × AreExact rows

name_exact : (make : List ℕ → Call) (n : ℕ) → ((words : List ℕ) → words_of (make words) ≡ n ∷ words) → IsExact (n, named_call make)
name_exact make n = kept_exact make n (λ name. nat_le (length name) 33 && list_all is_byte name)

copy_exact : IsExact (13, copy_call)
copy_exact = kept_exact SingleCopyEnd 13 (λ payload. nat_le (length payload) 8) (λ payload. refl)

table_exact : AreExact call_table
table_exact = (
  loop_exact,
  (
    alone_exact _ 2 refl,
    (
      alone_exact _ 3 refl,
      (
        alone_exact _ 4 refl,
        (
          alone_exact _ 5 refl,
          (
            sections_exact,
            (
              alone_exact _ 7 refl,
              (
                alone_exact _ 8 refl,
                (
                  alone_exact _ 9 refl,
                  (
                    alone_exact _ 10 refl,
                    (
                      alone_exact _ 11 refl,
                      (
                        alone_exact _ 12 refl,
                        (
                          copy_exact,
                          (
                            ordered_exact,
                            (
                              alone_exact _ 15 refl,
                              (
                                alone_exact _ 16 refl,
                                (
                                  alone_exact _ 17 refl,
                                  (
                                    name_exact _ 18 (λ name. refl),
                                    (
                                      name_exact _ 19 (λ name. refl),
                                      (
                                        alone_exact _ 20 refl,
                                        (
                                          alone_exact _ 21 refl,
                                          (
                                            lock_exact _ 22 (λ lock. refl),
                                            (
                                              lock_exact _ 23 (λ lock. refl),
                                              (
                                                lock_exact _ 24 (λ lock. refl),
                                                (
                                                  lock_exact _ 25 (λ lock. refl),
                                                  (
                                                    lock_exact _ 26 (λ lock. refl),
                                                    (
                                                      lock_exact _ 27 (λ lock. refl),
                                                      (
                                                        lock_exact _ 28 (λ lock. refl),
                                                        (
                                                          task_exact,
                                                          (
                                                            alone_exact _ 30 refl,
                                                            (
                                                              taskwait_exact,
                                                              (
                                                                alone_exact _ 32 refl,
                                                                (
                                                                  alone_exact _ 33 refl,
                                                                  (cancel_call_exact, (point_exact, (alone_exact _ 36 refl, (alone_exact _ 37 refl, tt)))),
                                                                ),
                                                              ),
                                                            ),
                                                          ),
                                                        ),
                                                      ),
                                                    ),
                                                  ),
                                                ),
                                              ),
                                            ),
                                          ),
                                        ),
                                      ),
                                    ),
                                  ),
                                ),
                              ),
                            ),
                          ),
                        ),
                      ),
                    ),
                  ),
                ),
              ),
            ),
          ),
        ),
      ),
    ),
  ),
)

found_row : (n : ℕ) (row found : ℕ × (List ℕ → Option Call)) (rows : List (ℕ × (List ℕ → Option Call))) (hit : Bool) → (hit ≡ true → row.0 ≡ n) → IsExact row →
    (find (λ row. row.0 == n) rows ≡ Some found → IsExact found × (found.0 ≡ n)) →
    (if hit then Some row else find (λ row. row.0 == n) rows) ≡ Some found → IsExact found × (found.0 ≡ n)
found_row n row found rows true same exact later is = let e : row ≡ found = cc in subst (λ r. IsExact r × (r.0 ≡ n)) e (exact, same refl)
found_row n row found rows false same exact later is = later is

found_exact : (n : ℕ) (rows : List (ℕ × (List ℕ → Option Call))) (found : ℕ × (List ℕ → Option Call)) → AreExact rows →
    find (λ row. row.0 == n) rows ≡ Some found → IsExact found × (found.0 ≡ n)
found_exact n [] found exact is = cc
found_exact n (row ∷ rows) found exact is = found_row n row found rows (row.0 == n) (λ e. eqb-true row.0 n e) exact.0 (found_exact n rows found exact.1) is

pub call_exact : (words : List ℕ) (call : Call) → All IsWord words → call_of words ≡ Some call → words_of call ≡ words
call_exact [] call fit is = cc
call_exact (n ∷ arguments) call fit is =
    let row = given_some (find (λ (row : ℕ × (List ℕ → Option Call)). row.0 == n) call_table) (λ row. row.1 arguments) call is in
    let exact = found_exact n call_table row.0 table_exact row.1 in
    exact.0 arguments call (λ k d here. fit (suc k) d (omega arith)) row.2 ∙ ap (λ k. k ∷ arguments) exact.1
