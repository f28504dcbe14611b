-- What laws and clauses have as their premise is met: each by nothing at all, and by one more.
use Rattle.std.proofs.Common.{◌≡◌, ◌≢◌, ℕ, ◌<◌, false, List, [], ◌∷◌, ◌⊎◌, refl}
use Rattle.gomp_types.specs.declared.reply.Reply.TheVariants.{Wait}
use Rattle.gomp_types.specs.declared.shape.Shape.{Shape}
use Rattle.gomp_gate.specs.Shapes.{shape_word, SameWords}
use Rattle.gomp_command.specs.CommandLine.{ArePlain}
use Rattle.gomp_waits.specs.Waits.{WaitBoardView, comes_amid_wait}
use Rattle.gomp_waits.specs.Runs.{Asked, Leads, KeepsWaiting}

-- no settings have no hyphen in front
pub no_settings_are_plain : ArePlain []
no_settings_are_plain = tt

-- nor has a word that begins with anything else, before others that have none
pub word_without_hyphen_is_plain : (b : ℕ) (word : List ℕ) (words : List (List ℕ)) → b ≢ 45 → ArePlain words → ArePlain ((b ∷ word) ∷ words)
word_without_hyphen_is_plain b word words other plain = (other, plain)

-- nor the empty word
pub empty_word_is_plain : (words : List (List ℕ)) → ArePlain words → ArePlain ([] ∷ words)
empty_word_is_plain words plain = (tt, plain)

-- a member that asked nothing waits on
pub nothing_asked_keeps_waiting : (m : ℕ) → KeepsWaiting m []
nothing_asked_keeps_waiting m = tt

-- and one that asked what does not come amid its wait, or was answered to wait
pub asked_amid_keeps_waiting : (m : ℕ) (asked : Asked) (later : List Asked) → (asked.member ≡ m → (comes_amid_wait asked.op ≡ false) ⊎ (asked.reply ≡ Wait)) → KeepsWaiting m later → KeepsWaiting m (asked ∷ later)
asked_amid_keeps_waiting m asked later holds keeps = (holds, keeps)

-- nothing that is asked leads from a board to itself
pub nothing_asked_leads_nowhere_else : (view : WaitBoardView) → Leads [] view view
nothing_asked_leads_nowhere_else view = refl

-- two shares whose words are the same one by one have the same words
pub words_one_by_one_are_the_same : (a b : Shape) → ((place : ℕ) → place < 4 → shape_word place a ≡ shape_word place b) → SameWords a b
words_one_by_one_are_the_same a b same = same
