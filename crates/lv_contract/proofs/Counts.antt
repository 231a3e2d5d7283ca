-- Ranges of what was read, from those of the document.
use Rattle.std.proofs.Common.{◌≡◌, ℕ, ◌≤◌, Bool, true, ◌&&◌, nat_le, List, [], ◌∷◌, length, map, Option, refl, sym, ap, ◌∙◌, subst}
use Rattle.std.specs.List.{list_all}
use Rattle.std.proofs.lemmas.Bool.{and_parts, leb-true}
use Rattle.std.proofs.lemmas.List.{length-map}
use Rattle.toml.specs.Data.{Members}
use Rattle.lv_contract.specs.declared.key.Key.{Key}
use Rattle.lv_contract.specs.declared.key.Key.TheVariants as k
use Rattle.lv_contract.specs.declared.named.Named.{Named}
use Rattle.lv_contract.specs.declared.named.Guarded.{Guarded}
use Rattle.lv_contract.specs.declared.named.PortText.{PortText}
use Rattle.lv_contract.specs.declared.named.SimState.{SimState}
use Rattle.lv_contract.specs.declared.named.SimInput.{SimInput}
use Rattle.lv_contract.specs.Values.{number_at, text_at, string_at, texts_at, lists_at, is_printable, is_name}
use Rattle.lv_contract.specs.Ranges.{in_range, in_count, is_name_or_none, is_port_count, are_same}
use Rattle.lv_contract.specs.Named.{texts, PortTexts, port_texts, pair_of, guarded_pair, state_pair, inputs_of, input_texts, contract_counts}
use Rattle.lv_contract.specs.Shapes.{TextsFit, ListsFit, InitialFits, CandidatesFit, SimulationFits, PortsFit, TopFits, port_tables, contract_count}
use Rattle.lv_contract.specs.Says.{port_at, ports_at}

both : (a b : Bool) → a ≡ true → b ≡ true → (a && b) ≡ true
both a b h i = rw (h, i) refl

pub range : (key : Key) (n m : ℕ) → n ≡ m → in_range key m ≡ true → in_range key n ≡ true
range key n m e h = subst (λ j. in_range key j ≡ true) (sym e) h

pub texts_counted : (key : Key) (ms : Members) (xs : List Named) → texts xs ≡ texts_at key ms → TextsFit key ms → in_count key (length xs) ≡ true
texts_counted key ms xs e fit =
    subst (λ n. in_count key n ≡ true) (sym (sym (length-map xs (λ (x : Named). x.text)) ∙ ap length e)) fit.counted

lists-counted : {X Y : Type 0} (f : X → Y) (g : List (List ℕ) → Y) (most : ℕ) (key : Key) (ms : Members) (xs : List X) → map f xs ≡ map g (lists_at key ms) → ListsFit most key ms → in_count key (length xs) ≡ true
lists-counted f g most key ms xs e fit =
    subst (λ n. in_count key n ≡ true) (sym (sym (length-map xs f) ∙ (ap length e ∙ length-map (lists_at key ms) g))) fit.counted

pub pairs_counted : (ms : Members) (xs : List Guarded) → map guarded_pair xs ≡ map pair_of (lists_at k.When ms) → ListsFit 2 k.When ms → in_count k.When (length xs) ≡ true
pairs_counted ms xs e fit = lists-counted guarded_pair pair_of 2 k.When ms xs e fit

pub simulation_range : (ms : Members) (n : ℕ) → n ≡ number_at 1 k.SimulatedCycles ms → SimulationFits ms → in_range k.SimulatedCycles n ≡ true
simulation_range ms n e fit = range k.SimulatedCycles n _ e fit.cycles

pub simulation_counts : (ms : Members) (show : List Named) (state : List SimState) (input : List SimInput) → texts show ≡ texts_at k.Show ms → map state_pair state ≡ map pair_of (lists_at k.State ms)
    → map input_texts input ≡ map inputs_of (lists_at k.Input ms) → SimulationFits ms → (in_count k.Show (length show) && in_count k.State (length state) && in_count k.Input (length input)) ≡ true
simulation_counts ms show state input e f g fit =
    both _ _ (both _ _ (texts_counted k.Show ms show e fit.show) (lists-counted state_pair pair_of 2 k.State ms state f fit.state)) (lists-counted input_texts inputs_of 10001 k.Input ms input g fit.input)

-- ---- ports

pub ports_counted : (format : ℕ) (ms : Members) (ports : List PortText) → map port_texts ports ≡ ports_at format ms → PortsFit format ms → is_port_count format (length ports) ≡ true
ports_counted format ms ports e fit =
    subst (λ n. is_port_count format n ≡ true) (sym (sym (length-map ports port_texts) ∙ (ap length e ∙ length-map (port_tables format ms) port_at))) fit.count

pub counts_ports : (ps : List PortText) → contract_counts ps ≡ map (λ (q : PortTexts). length q.contract) (map port_texts ps)
counts_ports [] = refl
counts_ports (p ∷ ps) = let n : length p.contract ≡ length (texts p.contract) = sym (length-map p.contract (λ (x : Named). x.text)) in let rest = counts_ports ps in λ j. n j ∷ rest j

pub counts_tables : (ts : List Members) → map (λ (q : PortTexts). length q.contract) (map port_at ts) ≡ map contract_count ts
counts_tables [] = refl
counts_tables (t ∷ ts) = ap (λ ns. contract_count t ∷ ns) (counts_tables ts)

pub counts_are : (format : ℕ) (ms : Members) (ports : List PortText) → map port_texts ports ≡ ports_at format ms → contract_counts ports ≡ map contract_count (port_tables format ms)
counts_are format ms ports e = counts_ports ports ∙ (ap (map (λ (q : PortTexts). length q.contract)) e ∙ counts_tables (port_tables format ms))

pub ports_same : (format : ℕ) (ms : Members) (ports : List PortText) → map port_texts ports ≡ ports_at format ms → PortsFit format ms → are_same (contract_counts ports) ≡ true
ports_same format ms ports e fit = ap are_same (counts_are format ms ports e) ∙ fit.same

pub few_lookahead : (n : ℕ) → in_range k.Lookahead n ≡ true → n ≤ 32
few_lookahead n h = leb-true n 32 (and_parts (nat_le 0 n) (nat_le n 32) h).1

-- ---- what the type of a contract keeps

pub numbers_fit : (format lookahead budget cycles : ℕ) (ms : Members) → in_range k.Format format ≡ true → lookahead ≡ number_at 0 k.Lookahead ms → budget ≡ number_at 200000 k.Budget ms → cycles ≡ number_at 16 k.Cycles ms → TopFits format ms
    → (in_range k.Format format && in_range k.Lookahead lookahead && in_range k.Budget budget && in_range k.Cycles cycles) ≡ true
numbers_fit format lookahead budget cycles ms f l b c fit =
    both _ _ (both _ _ (both _ _ f (range k.Lookahead lookahead _ l fit.lookahead)) (range k.Budget budget _ b fit.budget)) (range k.Cycles cycles _ c fit.cycles)

pub names_fit : (format : ℕ) (top clock : List ℕ) (certificate : Option (List ℕ)) (ms : Members) → top ≡ text_at k.Top ms → clock ≡ text_at k.Clock ms → certificate ≡ string_at k.Certificate ms → TopFits format ms
    → (is_name top && is_name clock && is_name_or_none certificate) ≡ true
names_fit format top clock certificate ms t c e fit =
    both _ _ (both _ _ (subst (λ s. is_name s ≡ true) (sym t) fit.top) (subst (λ s. is_name s ≡ true) (sym c) fit.clock)) (subst (λ o. is_name_or_none o ≡ true) (sym e) fit.certificate)

pub files_fit : (format : ℕ) (files : List (List ℕ)) (ms : Members) → files ≡ texts_at k.Files ms → TopFits format ms → (in_count k.Files (length files) && list_all is_printable files) ≡ true
files_fit format files ms e fit =
    both _ _ (subst (λ ts. in_count k.Files (length ts) ≡ true) (sym e) fit.files.counted) (subst (λ ts. list_all is_printable ts ≡ true) (sym e) fit.files.printable)

pub observed_fit : (format : ℕ) (ms : Members) (attacker assume : List Named) → texts attacker ≡ texts_at k.Attacker ms → texts assume ≡ texts_at k.Assume ms → TopFits format ms
    → (in_count k.Attacker (length attacker) && in_count k.Assume (length assume)) ≡ true
observed_fit format ms attacker assume a b fit = both _ _ (texts_counted k.Attacker ms attacker a fit.attacker) (texts_counted k.Assume ms assume b fit.assume)

pub started_fit : (ms : Members) (equal each : List Named) → texts equal ≡ texts_at k.Equal ms → texts each ≡ texts_at k.Each ms → InitialFits ms → (in_count k.Equal (length equal) && in_count k.Each (length each)) ≡ true
started_fit ms equal each e f fit = both _ _ (texts_counted k.Equal ms equal e fit.equal) (texts_counted k.Each ms each f fit.each)

pub listed_fit : (ms : Members) (equal each : List Named) (guarded : List Guarded) → texts equal ≡ texts_at k.Equal ms → map guarded_pair guarded ≡ map pair_of (lists_at k.When ms) → texts each ≡ texts_at k.Each ms → CandidatesFit ms
    → (in_count k.Equal (length equal) && in_count k.When (length guarded) && in_count k.Each (length each)) ≡ true
listed_fit ms equal each guarded e w f fit =
    both _ _ (both _ _ (texts_counted k.Equal ms equal e fit.equal) (pairs_counted ms guarded w fit.guarded)) (texts_counted k.Each ms each f fit.each)
