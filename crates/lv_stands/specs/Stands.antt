-- What it is that clauses stand for a query.
use Rattle.std.specs.Prelude.{◌≡◌, ℕ, ◌≤◌, Bool, List}
use Rattle.lv_bits.specs.Words.{Bits}
use Rattle.lv_bits.specs.Digits.{words_from}
use Rattle.lv_model.specs.Machine.{Query}
use Rattle.lv_model.specs.Meeting.{cycles_of}
use Rattle.lv_model.specs.Design.{Observers}
use Rattle.lv_netlist.specs.Net.{Net}
use Rattle.lv_netlist.specs.Stepping.{GraphCycle}
use Rattle.lv_netlist.specs.Queries.{AreMeeting, product_widths, query_bits}
use Rattle.lv_clauses.specs.Sets.{SetValue}
use Rattle.lv_clauses.specs.Values.{Satisfies}
use Rattle.lv_clauses.specs.Decided.{IsDecidedBy}

-- the words of a query whose bits the variables from 1 on are
abbrev pub query_words : Net → ℕ → Query → (ℕ → Bool) → List Bits
query_words net b q values = words_from values 1 (product_widths net (cycles_of q b))

-- the first variables are the bits of the query; they decide the set, and it can be satisfied with them exactly where they meet the query
pub record StandsFor (set : SetValue) (net : Net) (o : Observers GraphCycle) (b : ℕ) (s : List ℕ) (q : Query) : Type 0 where
  pub vars : query_bits net b q ≤ set.vars
  pub decided : IsDecidedBy set (query_bits net b q)
  pub meets : (values : ℕ → Bool) → Satisfies values set.clauses → AreMeeting net o b s q (query_words net b q values)
  pub met :
      (values : ℕ → Bool) → AreMeeting net o b s q (query_words net b q values) →
      (whole : ℕ → Bool) × (Satisfies whole set.clauses) × ((k : ℕ) → 1 ≤ k → k ≤ query_bits net b q → whole k ≡ values k)
