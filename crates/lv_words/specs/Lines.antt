-- The lists of words that are command lines, and what each asks for.
use Rattle.std.specs.Prelude.{◌≡◌, ℕ, ◌≤◌, List, [], Option, Some, None, true, codes, decimal, IsUtf8, All}
use Rattle.clap.specs.Words.{App, Rule, new_app, new_rule, with_rule, fault_of, matches_of, first_of, first_value}
use Rattle.clap.specs.Simple.{on_top}
use Rattle.clap.specs.declared.parser.matches.Found.{Found}
use Rattle.lv_words.specs.declared.modes.Asked.{Asked}
use Rattle.lv_words.specs.declared.modes.Asked.TheVariants as a

-- ---- the command, as `clap` reads it: `MODE FILE [--out NAME]`, in any order that it takes, `--out=NAME` too

abbrev pub mode_rule : Rule
mode_rule = record (new_rule (codes "mode")) { required = true }

abbrev pub file_rule : Rule
file_rule = record (new_rule (codes "file")) { required = true }

abbrev pub out_rule : Rule
out_rule = record (new_rule (codes "out")) { long = Some (codes "out") }

-- the first word is no program's name
abbrev pub bare : App
bare = on_top (λ top. record top { no_binary_name = true }) (new_app (codes "leave"))

abbrev pub command : App
command = with_rule (with_rule (with_rule bare mode_rule) file_rule) out_rule

-- `clap` takes the words, with this MODE, FILE and NAME
pub record IsTaken (words : List (List ℕ)) (mode file : List ℕ) (out : Option (List ℕ)) : Type 0 where
  pub taken : fault_of command words ≡ []
  pub mode_is : first_of (codes "mode") (matches_of command words) ≡ Some mode
  pub file_is : first_of (codes "file") (matches_of command words) ≡ Some file
  pub out_is : first_of (codes "out") (matches_of command words) ≡ out

-- ---- what a line asks for

-- a number of 1 to 500, in decimal without leading zeros
pub record IsNumber (word : List ℕ) (n : ℕ) : Type 0 where
  pub least : 1 ≤ n
  pub most : n ≤ 500
  pub written : decimal n ≡ word

-- without `--out`
pub data IsAskedAlone (mode file : List ℕ) : Asked → Type 0 where
  check : mode ≡ codes "check" → IsAskedAlone mode file (a.Check file)
  sim : mode ≡ codes "sim" → IsAskedAlone mode file (a.Sim file)
  print : mode ≡ codes "print" → IsAskedAlone mode file (a.Print file)
  gen : (n : ℕ) → mode ≡ codes "gen" → IsNumber file n → IsAskedAlone mode file (a.Gen n)

pub data IsAskedBy (mode file : List ℕ) (out : Option (List ℕ)) : Asked → Type 0 where
  verify : mode ≡ codes "verify" → IsAskedBy mode file out (a.Verify file out)
  alone : (asked : Asked) → out ≡ None → IsAskedAlone mode file asked → IsAskedBy mode file out asked

-- ---- what words ask for

pub record IsAskedIn (words : List (List ℕ)) (asked : Asked) : Type 0 where
  pub mode : List ℕ
  pub file : List ℕ
  pub out : Option (List ℕ)
  pub line : IsTaken words mode file out
  pub asks : IsAskedBy mode file out asked

-- words in UTF-8, that `clap` takes as a line which asks for this
pub record IsAsked (words : List (List ℕ)) (asked : Asked) : Type 0 where
  pub texts : All IsUtf8 words
  pub asks : IsAskedIn words asked

-- ---- what is found in a parse

pub record HasLine (found : Found) (mode file : List ℕ) (out : Option (List ℕ)) : Type 0 where
  pub mode_is : first_value found (codes "mode") ≡ Some mode
  pub file_is : first_value found (codes "file") ≡ Some file
  pub out_is : first_value found (codes "out") ≡ out
