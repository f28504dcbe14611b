-- What a tool is after several records. (own)
use Rattle.std.specs.Prelude.{◌≡◌, List, [], ◌∷◌}
use Rattle.gomp_ompt.specs.declared.record.Record.{Record}

-- a tool after each of these records, one after another; `gives` says what one does to it
abbrev pub AfterEach : {T : Type 0} → (T → Record → T → Type 0) → T → List Record → T → Type 0
AfterEach gives old [] new = old ≡ new
AfterEach {T} gives old (event ∷ events) new = (between : T) × gives old event between × AfterEach gives between events new
