use Rattle.std.proofs.Common.{rules, ap, ap₂, refl, true, map, ◌≡◌, ◌∙◌, subst}
use Rattle.std.proofs.lemmas.Result.{IfOk-weaker}
use Rattle.clap.specs.Words.{FailsBy, app_of, rule_of, is_simple, is_simple_and_free, with_rule, matches_of, fault_of}
use Rattle.clap.specs.Simple.{app_of_fields, on_top}
use Rattle.clap.proofs.OnLiterals.{clap_on_literals}
use Rattle.lv_words.specs.Lines.{command, bare, mode_rule, file_rule, out_rule}
use Rattle.lv_words.proofs.Parsed.{fails_ok, fails_err}
use Rattle.lv_words.proofs.line.matches.Goals as goal

is_simple_command : is_simple command ≡ true
unfolding clap_on_literals
is_simple_command = refl

is_free_command : is_simple_and_free command ≡ true
unfolding clap_on_literals
is_free_command = refl

command_is : (c : goal.After-try_get_matches_from) → app_of c.in_ok-command.command ≡ command
command_is c =
    let mode_is : rule_of c.required-mode.result ≡ mode_rule = search rules in
    let file_is : rule_of c.required-file.result ≡ file_rule = search rules in
    let out_is : rule_of c.long-out.result ≡ out_rule = search rules in
    let bare_is : app_of c.no_binary_name.result ≡ bare =
    ap app_of_fields c.no_binary_name.ensures ∙ ap (on_top (λ top. record top { no_binary_name = true })) c.new-4.ensures.app in
    let first_is : app_of c.in_ok-arg.field-0 ≡ with_rule bare mode_rule = c.in_ok-arg.ensures.shape (search rules) ∙ ap₂ with_rule bare_is mode_is in
    let second_is : app_of c.in_ok-arg-2.field-0 ≡ with_rule (with_rule bare mode_rule) file_rule = c.in_ok-arg-2.ensures.shape (search rules) ∙ ap₂ with_rule first_is file_is in
    c.in_ok-command.ensures.shape (search rules) ∙ ap₂ with_rule second_is out_is

fails : (c : goal.After-try_get_matches_from) → FailsBy (fault_of command (map (λ s. s.now) c.args.words.now)) c.try_get_matches_from.result
fails c =
    subst (λ a. FailsBy (fault_of a (map (λ s. s.now) c.args.words.now)) c.try_get_matches_from.result) (command_is c)
    (c.try_get_matches_from.ensures.kinds (ap is_simple_and_free (command_is c) ∙ is_free_command))

pub returns-clause-taken : goal.returns-clause-taken
returns-clause-taken c = fails_ok _ c.try_get_matches_from.result (fails c)

pub returns-clause-rows : goal.returns-clause-rows
returns-clause-rows c =
    IfOk-weaker c.try_get_matches_from.result _ _
    (λ m h. (h (ap is_simple (command_is c) ∙ is_simple_command)).0 ∙ ap (λ a. matches_of a (map (λ s. s.now) c.args.words.now)) (command_is c))
    c.try_get_matches_from.ensures.matches

pub returns-clause-refused : goal.returns-clause-refused
returns-clause-refused c = fails_err _ c.try_get_matches_from.result (fails c)
