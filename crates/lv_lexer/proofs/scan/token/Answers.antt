use Rattle.std.proofs.Common.{sym, ◌∙◌}
use Rattle.lv_ast.specs.Tokens.{kind_of}
use Rattle.lv_lexer.proofs.Longest.{nil_found, none_found}
use Rattle.lv_lexer.proofs.Leads.{no_kind, system_found, system_none, tick_found, tick_none, based_found, based_none, number_found, line_found, backslash_found, backslash_none, mark_found, no_mark, letter_found}
use Rattle.lv_lexer.proofs.scan.token.Goals as goal

pub returns-in_err-first : goal.returns-in_err-first
returns-in_err-first c = nil_found kind_of _ _ no_kind c.in_err-first.ensures c.from_residual.ensures

pub returns-in-Letter : goal.returns-in-Letter
returns-in-Letter c = letter_found _ _ _ c.in_ok-first.ensures (sym c.lead_of.ensures ∙ c.in-Letter.is) _ c.named.ensures

pub returns-in-Digit : goal.returns-in-Digit
returns-in-Digit c = number_found _ _ _ c.in_ok-first.ensures (sym c.lead_of.ensures ∙ c.in-Digit.is) _ c.front.ensures.value

pub returns-in-Newline : goal.returns-in-Newline
returns-in-Newline c = line_found _ _ _ c.in_ok-first.ensures (sym c.lead_of.ensures ∙ c.in-Newline.is)

pub returns-in_ok-kind-in-Backslash : goal.returns-in_ok-kind-in-Backslash
returns-in_ok-kind-in-Backslash c = backslash_found _ _ _ c.in_ok-first.ensures (sym c.lead_of.ensures ∙ c.in-Backslash.is) _ _ c.in_ok-kind-in-Backslash.ensures

pub returns-in_err-kind-in-Backslash : goal.returns-in_err-kind-in-Backslash
returns-in_err-kind-in-Backslash c = none_found kind_of _ _ c.from_residual-in_err-kind-in-Backslash.ensures (backslash_none _ _ _ c.in_ok-first.ensures (sym c.lead_of.ensures ∙ c.in-Backslash.is) c.in_err-kind-in-Backslash.ensures)

pub returns-in_ok-system-in-Dollar : goal.returns-in_ok-system-in-Dollar
returns-in_ok-system-in-Dollar c = system_found _ _ _ c.in_ok-first.ensures (sym c.lead_of.ensures ∙ c.in-Dollar.is) _ c.in_ok-system-in-Dollar.ensures

pub returns-in_err-system-in-Dollar : goal.returns-in_err-system-in-Dollar
returns-in_err-system-in-Dollar c = none_found kind_of _ _ c.from_residual-in_err-system-in-Dollar.ensures (system_none _ _ _ c.in_ok-first.ensures (sym c.lead_of.ensures ∙ c.in-Dollar.is) c.in_err-system-in-Dollar.ensures)

pub returns-in_ok-tick-in-Accent : goal.returns-in_ok-tick-in-Accent
returns-in_ok-tick-in-Accent c = tick_found _ _ _ c.in_ok-first.ensures (sym c.lead_of.ensures ∙ c.in-Accent.is) _ c.in_ok-tick-in-Accent.ensures

pub returns-in_err-tick-in-Accent : goal.returns-in_err-tick-in-Accent
returns-in_err-tick-in-Accent c = none_found kind_of _ _ c.from_residual-in_err-tick-in-Accent.ensures (tick_none _ _ _ c.in_ok-first.ensures (sym c.lead_of.ensures ∙ c.in-Accent.is) c.in_err-tick-in-Accent.ensures)

pub returns-in_ok-based-in-Apostrophe : goal.returns-in_ok-based-in-Apostrophe
returns-in_ok-based-in-Apostrophe c = based_found _ _ _ c.in_ok-first.ensures (sym c.lead_of.ensures ∙ c.in-Apostrophe.is) _ c.in_ok-based-in-Apostrophe.ensures

pub returns-in_err-based-in-Apostrophe : goal.returns-in_err-based-in-Apostrophe
returns-in_err-based-in-Apostrophe c = none_found kind_of _ _ c.from_residual-in_err-based-in-Apostrophe.ensures (based_none _ _ _ c.in_ok-first.ensures (sym c.lead_of.ensures ∙ c.in-Apostrophe.is) c.in_err-based-in-Apostrophe.ensures)

pub returns-in_ok-mark-in-Other : goal.returns-in_ok-mark-in-Other
returns-in_ok-mark-in-Other c = mark_found _ _ _ c.in_ok-first.ensures (sym c.lead_of.ensures ∙ c.in-Other.is) _ c.in_ok-mark-in-Other.ensures

pub returns-in_err-mark-in-Other : goal.returns-in_err-mark-in-Other
returns-in_err-mark-in-Other c = none_found kind_of _ _ c.from_residual-in_err-mark-in-Other.ensures (no_mark _ _ _ c.in_ok-first.ensures (sym c.lead_of.ensures ∙ c.in-Other.is) c.in_err-mark-in-Other.ensures)
