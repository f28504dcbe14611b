-- By which block a member leaves a share or a task, as the blocks are read from the innermost on.
use Rattle.std.proofs.Common.{◌≡◌, ◌<◌, ◌≤◌, ◌+◌, ◌-◌, ℕ, Bool, true, false, List, [], ◌∷◌, ◌++◌, Some, None, suc, length, take, drop, slice_index_or, refl, ap, sym, ◌∙◌, arith, subst, drop-cons, length-drop, length-take-le, take_all, zero-add}
use Rattle.std.specs.List.{list_all, list_any}
use Rattle.std.proofs.lemmas.Bool.{and_from, and_parts, and_right, cond_both, or_from, or_left, or_parts, or_right}
use Rattle.std.proofs.lemmas.List.{take-append-drop}
use Rattle.gomp_region.specs.declared.script.Script.{Script}
use Rattle.gomp_program.specs.declared.frame.Block.{Block}
use Rattle.gomp_program.specs.declared.frame.Block.TheVariants.{OfLoop, OfSections, Once, OfTask}
use Rattle.gomp_program.specs.declared.frame.Exit.TheVariants.{FromConstruct}
use Rattle.gomp_program.specs.declared.frame.Frame.{Frame}
use Rattle.gomp_program.specs.Leaving.{groups_in, is_of_share, is_once, is_task_body, share_exit, task_exit}

abbrev pub once : Frame → Bool
once frame = is_once frame.block

abbrev pub body : Frame → Bool
body frame = is_task_body frame.block

-- the blocks around one, that block, and those in it are all blocks
pub blocks_parted : (frames : List Frame) (k : ℕ) (d : Frame) → k < length frames → take k frames ++ slice_index_or frames k d ∷ drop (suc k) frames ≡ frames
blocks_parted frames k d less = ap (λ (inner : List Frame). take k frames ++ inner) (sym (drop-cons frames k d less)) ∙ take-append-drop k frames

-- a block that is executed once is none of a share
pub once_is_no_share : (share block : Block) → is_once block ≡ true → is_of_share share block ≡ false
once_is_no_share share OfLoop is = absurd (cc)
once_is_no_share share OfSections is = absurd (cc)
once_is_no_share share (OfTask line stage) is = absurd (cc)
once_is_no_share OfLoop Once is = refl
once_is_no_share OfSections Once is = refl
once_is_no_share Once Once is = refl
once_is_no_share (OfTask line stage) Once is = refl

pub share_is_not_once : (share block : Block) → is_of_share share block ≡ true → is_once block ≡ false
share_is_not_once share OfLoop is = refl
share_is_not_once share OfSections is = refl
share_is_not_once share (OfTask line stage) is = refl
share_is_not_once share Once is = absurd (let no = once_is_no_share share Once refl in cc)

-- no share is left from blocks that are executed once
pub no_exit_from_once : (script : Script) (share : Block) (around : ℕ) (frames : List Frame) → list_all once frames ≡ true → share_exit script share around frames ≡ None
no_exit_from_once script share around [] all = refl
no_exit_from_once script share around (frame ∷ inner) all =
    let both = and_parts (once frame) (list_all once inner) all in
    rw (once_is_no_share share frame.block both.0) (no_exit_from_once script share (around + 1) inner both.1)

-- a block that is not executed once is among these
pub not_all_once : (outer : List Frame) (frame : Frame) (inner : List Frame) → is_once frame.block ≡ false → list_all once (outer ++ frame ∷ inner) ≡ false
not_all_once [] frame inner is = rw is refl
not_all_once (other ∷ outer) frame inner is = and_right (once other) (list_all once (outer ++ frame ∷ inner)) (not_all_once outer frame inner is)

-- around a block that is not executed once no share is looked for
pub exit_further_in : (script : Script) (share : Block) (around : ℕ) (outer : List Frame) (frame : Frame) (inner : List Frame) → is_once frame.block ≡ false → share_exit script share around (outer ++ frame ∷ inner) ≡ share_exit script share (around + length outer) (frame ∷ inner)
exit_further_in script share around [] frame inner is = ap (λ (n : ℕ). share_exit script share n (frame ∷ inner)) (let e : around ≡ around + 0 = omega arith in e)
exit_further_in script share around (other ∷ outer) frame inner is =
    let none = not_all_once outer frame inner is in
    let more = exit_further_in script share (around + 1) outer frame inner is in
    let same : share_exit script share (around + 1 + length outer) (frame ∷ inner) ≡ share_exit script share (around + suc (length outer)) (frame ∷ inner) = ap (λ (n : ℕ). share_exit script share n (frame ∷ inner)) (let e : around + 1 + length outer ≡ around + suc (length outer) = omega arith in e) in
    let further : share_exit script share (around + 1) (outer ++ frame ∷ inner) ≡ share_exit script share (around + suc (length outer)) (frame ∷ inner) = more ∙ same in
    rw none (cond_both (is_of_share share other.block) (share_exit script share (around + 1) (outer ++ frame ∷ inner)) (share_exit script share (around + 1) (outer ++ frame ∷ inner)) (λ found. found ≡ share_exit script share (around + suc (length outer)) (frame ∷ inner)) (λ (is : is_of_share share other.block ≡ true). further) (λ (is : is_of_share share other.block ≡ false). further))

-- the share of this block is left, inside of which all blocks are executed once
pub share_is_left : (script : Script) (share : Block) (frames : List Frame) (k : ℕ) (d : Frame) → k < length frames → list_all once (drop (suc k) frames) ≡ true → is_of_share share (slice_index_or frames k d).block ≡ true →
    share_exit script share 0 frames ≡ Some (FromConstruct (slice_index_or frames k d).line k (groups_in script (drop k frames)))
share_is_left script share frames k d less all is =
    let frame = slice_index_or frames k d in
    let inner = drop (suc k) frames in
    let further = exit_further_in script share 0 (take k frames) (slice_index_or frames k d) (drop (suc k) frames) (share_is_not_once share (slice_index_or frames k d).block is) in
    let long : 0 + length (take k frames) ≡ k = zero-add (length (take k frames)) ∙ length-take-le k frames (omega arith) in
    let here : share_exit script share k (slice_index_or frames k d ∷ drop (suc k) frames) ≡ Some (FromConstruct (slice_index_or frames k d).line k (groups_in script (slice_index_or frames k d ∷ drop (suc k) frames))) = rw (is, all) refl in
    ap (share_exit script share 0) (sym (blocks_parted frames k d less)) ∙ further
    ∙ ap (λ (n : ℕ). share_exit script share n (slice_index_or frames k d ∷ drop (suc k) frames)) long
    ∙ here ∙ ap (λ (blocks : List Frame). Some (FromConstruct (slice_index_or frames k d).line k (groups_in script blocks))) (sym (drop-cons frames k d less))

-- none is left from inside of another share or a task
pub no_share_is_left : (script : Script) (share : Block) (frames : List Frame) (k : ℕ) (d : Frame) → k < length frames → list_all once (drop (suc k) frames) ≡ true → is_of_share share (slice_index_or frames k d).block ≡ false → is_once (slice_index_or frames k d).block ≡ false →
    share_exit script share 0 frames ≡ None
no_share_is_left script share frames k d less all other is =
    let further = exit_further_in script share 0 (take k frames) (slice_index_or frames k d) (drop (suc k) frames) is in
    let none : share_exit script share (0 + length (take k frames)) (slice_index_or frames k d ∷ drop (suc k) frames) ≡ None = rw other (no_exit_from_once script share (0 + length (take k frames) + 1) (drop (suc k) frames) all) in
    ap (share_exit script share 0) (sym (blocks_parted frames k d less)) ∙ further ∙ none

-- one block further out that is executed once
pub once_more : (frames : List Frame) (k : ℕ) (d : Frame) → k < length frames → list_all once (drop (suc k) frames) ≡ true → is_once (slice_index_or frames k d).block ≡ true → list_all once (drop k frames) ≡ true
once_more frames k d less all is = rw (drop-cons frames k d less) (and_from (once (slice_index_or frames k d)) (list_all once (drop (suc k) frames)) is all)

-- the body of a task is among these
pub body_among : (outer : List Frame) (frame : Frame) (inner : List Frame) → is_task_body frame.block ≡ true → list_any body (outer ++ frame ∷ inner) ≡ true
body_among [] frame inner is = or_left (body frame) (list_any body inner) is
body_among (other ∷ outer) frame inner is = or_right (body other) (list_any body (outer ++ frame ∷ inner)) (body_among outer frame inner is)

-- around the body of a task no other is looked for
pub body_further_in : (around : ℕ) (outer : List Frame) (frame : Frame) (inner : List Frame) → is_task_body frame.block ≡ true → task_exit around (outer ++ frame ∷ inner) ≡ task_exit (around + length outer) (frame ∷ inner)
body_further_in around [] frame inner is = ap (λ (n : ℕ). task_exit n (frame ∷ inner)) (let e : around ≡ around + 0 = omega arith in e)
body_further_in around (other ∷ outer) frame inner is =
    let some = body_among outer frame inner is in
    let same : task_exit (around + 1 + length outer) (frame ∷ inner) ≡ task_exit (around + suc (length outer)) (frame ∷ inner) = ap (λ (n : ℕ). task_exit n (frame ∷ inner)) (let e : around + 1 + length outer ≡ around + suc (length outer) = omega arith in e) in
    let further : task_exit (around + 1) (outer ++ frame ∷ inner) ≡ task_exit (around + suc (length outer)) (frame ∷ inner) = body_further_in (around + 1) outer frame inner is ∙ same in
    rw some (cond_both (is_task_body other.block) (task_exit (around + 1) (outer ++ frame ∷ inner)) (task_exit (around + 1) (outer ++ frame ∷ inner)) (λ found. found ≡ task_exit (around + suc (length outer)) (frame ∷ inner)) (λ (is : is_task_body other.block ≡ true). further) (λ (is : is_task_body other.block ≡ false). further))

-- no task is left where no body is among these blocks
pub no_task_is_left : (around : ℕ) (frames : List Frame) → list_any body frames ≡ false → task_exit around frames ≡ None
no_task_is_left around [] none = refl
no_task_is_left around (frame ∷ inner) none =
    let both = or_parts (body frame) (list_any body inner) none in
    rw both.0 (no_task_is_left (around + 1) inner both.1)

-- the task is left whose body this block is, inside of which there is no other
pub task_is_left : (frames : List Frame) (k : ℕ) (d : Frame) → k < length frames → list_any body (drop (suc k) frames) ≡ false → is_task_body (slice_index_or frames k d).block ≡ true →
    task_exit 0 frames ≡ Some (FromConstruct (slice_index_or frames k d).line (k + 1) 0)
task_is_left frames k d less none is =
    let further = body_further_in 0 (take k frames) (slice_index_or frames k d) (drop (suc k) frames) is in
    let long : 0 + length (take k frames) ≡ k = zero-add (length (take k frames)) ∙ length-take-le k frames (omega arith) in
    let here : task_exit k (slice_index_or frames k d ∷ drop (suc k) frames) ≡ Some (FromConstruct (slice_index_or frames k d).line (k + 1) 0) = rw (is, none) refl in
    ap (task_exit 0) (sym (blocks_parted frames k d less)) ∙ further
    ∙ ap (λ (n : ℕ). task_exit n (slice_index_or frames k d ∷ drop (suc k) frames)) long ∙ here

-- one block further out that is no body of a task
pub no_body_more : (frames : List Frame) (k : ℕ) (d : Frame) → k < length frames → list_any body (drop (suc k) frames) ≡ false → is_task_body (slice_index_or frames k d).block ≡ false → list_any body (drop k frames) ≡ false
no_body_more frames k d less none is = rw (drop-cons frames k d less) (or_from (body (slice_index_or frames k d)) (list_any body (drop (suc k) frames)) is none)

-- all that is behind a place
pub rest_taken : (frames : List Frame) (k : ℕ) → take (length frames - k) (drop k frames) ≡ drop k frames
rest_taken frames k = take_all (length frames - k) (drop k frames) (omega (arith, length-drop k frames))

-- the same by how many blocks are not read yet
pub share_left_at : (script : Script) (share : Block) (frames : List Frame) (keep groups : ℕ) (d : Frame) → 0 < keep → keep ≤ length frames → list_all once (drop keep frames) ≡ true → is_of_share share (slice_index_or frames (keep - 1) d).block ≡ true → groups ≡ groups_in script (take (length frames - (keep - 1)) (drop (keep - 1) frames)) →
    share_exit script share 0 frames ≡ Some (FromConstruct (slice_index_or frames (keep - 1) d).line (keep - 1) groups)
share_left_at script share frames keep groups d some within all is opened =
    let one : keep ≡ suc (keep - 1) = omega arith in
    share_is_left script share frames (keep - 1) d (omega arith) (subst (λ (n : ℕ). list_all once (drop n frames) ≡ true) one all) is ∙ ap (λ (n : ℕ). Some (FromConstruct (slice_index_or frames (keep - 1) d).line (keep - 1) n)) (sym (opened ∙ ap (groups_in script) (rest_taken frames (keep - 1))))

pub no_share_left_at : (script : Script) (share : Block) (frames : List Frame) (keep : ℕ) (d : Frame) → 0 < keep → keep ≤ length frames → list_all once (drop keep frames) ≡ true → is_of_share share (slice_index_or frames (keep - 1) d).block ≡ false → is_once (slice_index_or frames (keep - 1) d).block ≡ false →
    share_exit script share 0 frames ≡ None
no_share_left_at script share frames keep d some within all other is =
    let one : keep ≡ suc (keep - 1) = omega arith in
    no_share_is_left script share frames (keep - 1) d (omega arith) (subst (λ (n : ℕ). list_all once (drop n frames) ≡ true) one all) other is

pub task_left_at : (frames : List Frame) (keep : ℕ) (d : Frame) → 0 < keep → keep ≤ length frames → list_any body (drop keep frames) ≡ false → is_task_body (slice_index_or frames (keep - 1) d).block ≡ true →
    task_exit 0 frames ≡ Some (FromConstruct (slice_index_or frames (keep - 1) d).line keep 0)
task_left_at frames keep d some within none is =
    let one : keep ≡ suc (keep - 1) = omega arith in
    let same : keep - 1 + 1 ≡ keep = omega arith in
    task_is_left frames (keep - 1) d (omega arith) (subst (λ (n : ℕ). list_any body (drop n frames) ≡ false) one none) is ∙ ap (λ (n : ℕ). Some (FromConstruct (slice_index_or frames (keep - 1) d).line n 0)) same

-- and if all are read
pub no_share_at_all : (script : Script) (share : Block) (frames : List Frame) (keep : ℕ) → keep ≤ 0 → list_all once (drop keep frames) ≡ true → share_exit script share 0 frames ≡ None
no_share_at_all script share frames keep none all = let zero_kept : keep ≡ 0 = omega arith in no_exit_from_once script share 0 frames (subst (λ (n : ℕ). list_all once (drop n frames) ≡ true) zero_kept all)

pub no_task_at_all : (frames : List Frame) (keep : ℕ) → keep ≤ 0 → list_any body (drop keep frames) ≡ false → task_exit 0 frames ≡ None
no_task_at_all frames keep all none = let zero_kept : keep ≡ 0 = omega arith in no_task_is_left 0 frames (subst (λ (n : ℕ). list_any body (drop n frames) ≡ false) zero_kept none)
