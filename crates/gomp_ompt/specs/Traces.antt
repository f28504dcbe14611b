-- Records that are kept in order, and how many are lost. (own)
use Rattle.std.specs.Prelude.{◌≡◌, ℕ, ◌+◌, ◌<◌, List, [], ◌∷◌, ◌++◌, ◌⊎◌, length}
use Rattle.gomp_ompt.specs.declared.record.Record.{Record}
use Rattle.gomp_ompt.specs.Counts.{capped}

-- the records that are kept, the oldest first; how many are lost; for how many more there is room in memory
pub record TraceView : Type 0 where
  pub records : List Record
  pub lost : ℕ
  pub room : ℕ

-- nothing is kept and nothing is lost
abbrev pub empty_trace : TraceView
empty_trace = record { records = []; lost = 0; room = 0 }

-- so many more records are lost
abbrev pub with_lost : TraceView → ℕ → TraceView
with_lost trace count = record trace { lost = capped (trace.lost + count) }

-- these records are kept behind those that were
pub record KeepsRecords (old : TraceView) (records : List Record) (new : TraceView) : Type 0 where
  pub kept : new.records ≡ old.records ++ records
  pub lost : new.lost ≡ old.lost

-- there was no room for them, so they are lost, and those that were kept stay
pub record LosesRecords (old : TraceView) (records : List Record) (new : TraceView) : Type 0 where
  pub full : old.room < length records
  pub kept : new.records ≡ old.records
  pub lost : new.lost ≡ capped (old.lost + length records)

-- these records are kept, or all of them are lost
abbrev pub TakesRecords : TraceView → List Record → TraceView → Type 0
TakesRecords old records new = KeepsRecords old records new ⊎ LosesRecords old records new

-- one record is
abbrev pub TakesRecord : TraceView → Record → TraceView → Type 0
TakesRecord old event new = TakesRecords old (event ∷ []) new

-- those of each of these traces are, in their order, and what these had lost is lost too
abbrev pub TakesTraces : TraceView → List TraceView → TraceView → Type 0
TakesTraces old [] new = old ≡ new
TakesTraces old (child ∷ children) new = (between : TraceView) × TakesRecords (with_lost old child.lost) child.records between × TakesTraces between children new
