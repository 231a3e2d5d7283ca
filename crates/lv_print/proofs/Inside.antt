-- What is written of trees that have tokens of their own only inside of others, and these trees without places.
use Rattle.std.proofs.Common.{◌≡◌, ℕ, List, [], ◌∷◌, ◌++◌, map, refl, ap, ◌∙◌, append_assoc}
use Rattle.std.specs.Prelude.{codes}
use Rattle.lv_ast.specs.declared.expr.Expr.{Expr}
use Rattle.lv_ast.specs.declared.stmt.Ident.{Ident}
use Rattle.lv_ast.specs.declared.stmt.Target.{Target}
use Rattle.lv_ast.specs.declared.item.Ports.{Ports}
use Rattle.lv_ast.specs.declared.item.Ports.TheVariants as ports
use Rattle.lv_ast.specs.declared.item.Watch.{Watch}
use Rattle.lv_ast.specs.declared.item.Watch.TheVariants as watch
use Rattle.lv_grammar.specs.declared.parts.Span.{Span}
use Rattle.lv_grammar.specs.declared.parts.Span.TheVariants as span
use Rattle.lv_grammar.specs.declared.parts.Head.{Head}
use Rattle.lv_grammar.specs.Shapes.{Placed}
use Rattle.lv_grammar.specs.Rules as rules
use Rattle.lv_print.specs.Written.{Written, mark, word, name, commas, joined}
use Rattle.lv_print.specs.Expressions.{path_tokens, expr_tokens, select_tokens}
use Rattle.lv_print.specs.Sources as tokens
use Rattle.lv_print.specs.Unplaced as bare
use Rattle.lv_print.specs.UnplacedSources as bare_source
use Rattle.lv_print.proofs.Papers.{tokens-Bit, tokens-Part, tokens-Up, tokens-Down}
use Rattle.lv_print.proofs.UnplacedRules.{unplaced-Bit, unplaced-Part, unplaced-Up, unplaced-Down}

-- what isn't placed
abbrev pub placed_expr : Placed Expr → Placed Expr
placed_expr p = record { tree = bare.expr p.tree; place = 0 }

abbrev pub placed_target : Placed Target → Placed Target
placed_target p = record { tree = bare_source.target p.tree; place = 0 }

abbrev pub expr_printed : Placed Expr → List Written
expr_printed p = expr_tokens p.tree

abbrev pub target_printed : Placed Target → List Written
target_printed p = tokens.target_tokens p.tree

-- ---- trees that have tokens of their own only inside of others

abbrev pub span_end : Span → List Written
span_end span.Bit = mark (codes "]") ∷ []
span_end (span.Part y) = mark (codes ":") ∷ (expr_tokens y ++ (mark (codes "]") ∷ []))
span_end (span.Up y) = mark (codes "+:") ∷ (expr_tokens y ++ (mark (codes "]") ∷ []))
span_end (span.Down y) = mark (codes "-:") ∷ (expr_tokens y ++ (mark (codes "]") ∷ []))

abbrev pub bare_span : Span → Span
bare_span span.Bit = span.Bit
bare_span (span.Part y) = span.Part (bare.expr y)
bare_span (span.Up y) = span.Up (bare.expr y)
bare_span (span.Down y) = span.Down (bare.expr y)

abbrev pub bound_tokens : List ℕ → Expr → List Written
bound_tokens m y = mark m ∷ (expr_tokens y ++ (mark (codes "]") ∷ []))

abbrev pub head_tokens : Head → List Written
head_tokens h = tokens.loop_tokens h.index h.start h.test h.again h.next

abbrev pub bare_head : Head → Head
bare_head h = record { index = bare_source.ident h.index; start = bare.expr h.start; test = bare.expr h.test; again = bare_source.ident h.again; next = bare.expr h.next }

abbrev pub inside_watch : Watch → List Written
inside_watch watch.Star = []
inside_watch watch.Closed = mark (codes "*") ∷ mark (codes ")") ∷ []
inside_watch (watch.Posedge x) = word (codes "posedge") ∷ (tokens.ident_tokens x ++ (mark (codes ")") ∷ []))

abbrev pub inside_ports : Ports → List Written
inside_ports (ports.Names xs) = commas (map tokens.ident_tokens xs)
inside_ports (ports.Declared list) = commas (map tokens.port_tokens list)
inside_ports _ = []

pub select_printed : (x : Expr) (e : Span) → select_tokens (rules.select_by x e) ≡ mark (codes "[") ∷ (expr_tokens x ++ span_end e)
select_printed x span.Bit = tokens-Bit x
select_printed x (span.Part y) = tokens-Part x y ∙ ap (λ z. mark (codes "[") ∷ z) (append_assoc (expr_tokens x) (mark (codes ":") ∷ expr_tokens y) (mark (codes "]") ∷ []))
select_printed x (span.Up y) = tokens-Up x y ∙ ap (λ z. mark (codes "[") ∷ z) (append_assoc (expr_tokens x) (mark (codes "+:") ∷ expr_tokens y) (mark (codes "]") ∷ []))
select_printed x (span.Down y) = tokens-Down x y ∙ ap (λ z. mark (codes "[") ∷ z) (append_assoc (expr_tokens x) (mark (codes "-:") ∷ expr_tokens y) (mark (codes "]") ∷ []))

pub select_bare : (x : Expr) (e : Span) → bare.select (rules.select_by x e) ≡ rules.select_by (bare.expr x) (bare_span e)
select_bare x span.Bit = unplaced-Bit x
select_bare x (span.Part y) = unplaced-Part x y
select_bare x (span.Up y) = unplaced-Up x y
select_bare x (span.Down y) = unplaced-Down x y

pub simple_path : (x : Ident) → path_tokens (rules.path_of x) ≡ name x.name ∷ []
unfolding path_tokens joined
simple_path x = refl
