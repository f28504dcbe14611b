-- Records: of what begins, of what ends, and of a moment. OpenMP API 5.2, section 19.4.4 (ompt_scope_endpoint_t).
use Rattle.std.specs.Prelude.{ℕ}
use Rattle.gomp_ompt.specs.declared.record.Point.{Point}
use Rattle.gomp_ompt.specs.declared.record.Record.{Record}
use Rattle.gomp_ompt.specs.declared.record.Endpoint.TheVariants.{Begin, End, Single}

-- something begins
abbrev pub begin_record : Point → ℕ → ℕ → Record
begin_record point id extra = record { point = point; scope = Begin; id = id; extra = extra }

-- something ends
abbrev pub end_record : Point → ℕ → ℕ → Record
end_record point id extra = record { point = point; scope = End; id = id; extra = extra }

-- something is of one moment
abbrev pub single_record : Point → ℕ → ℕ → Record
single_record point id extra = record { point = point; scope = Single; id = id; extra = extra }
