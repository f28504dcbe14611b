-- How the bad line of a script is printed. (own)
use Rattle.std.specs.Prelude.{ℕ, List, ◌++◌, codes}
use Rattle.std.specs.Fmt.{decimal}
use Rattle.gomp_script.specs.Printing.{why_text}
use Rattle.gomp_region.specs.declared.script.BadScript.{BadScript}
use Rattle.gomp_region.specs.declared.script.ScriptWhy.{ScriptWhy}
use Rattle.gomp_region.specs.declared.script.ScriptWhy.TheVariants.{Words, NoOpenBlock, TooDeep, NotClosed}

-- what is wrong with a line; a fault of its words is printed as that of a line of steps
abbrev pub script_why_text : ScriptWhy → List ℕ
script_why_text (Words why) = why_text why
script_why_text NoOpenBlock = codes "no open block"
script_why_text TooDeep = codes "too deep"
script_why_text NotClosed = codes "block not closed"

-- the line that refuses a script
abbrev pub bad_script_text : BadScript → List ℕ
bad_script_text bad = codes "bad line " ++ (decimal bad.line ++ (codes ": " ++ (script_why_text bad.why ++ codes "\n")))
