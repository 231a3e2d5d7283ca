-- What is written: tokens by their kind and bytes, and the text that joins them.
use Rattle.std.specs.Prelude.{ℕ, Bool, ◌&&◌, ◌||◌, if◌then◌else◌, ◌==◌, List, [], ◌∷◌, ◌++◌, bytes_eq, codes}
use Rattle.lv_ast.specs.Names.{is_simple}
use Rattle.lv_ast.specs.TokenLists.{kind_number}
use Rattle.lv_ast.specs.declared.tokens.Kind.{Kind}
use Rattle.lv_ast.specs.declared.tokens.Kind.TheVariants as k

pub record Written : Type 0 where
  pub kind : Kind
  pub bytes : List ℕ

abbrev pub written : Kind → List ℕ → Written
written k s = record { kind = k; bytes = s }

abbrev pub mark : List ℕ → Written
mark s = written k.Mark s

abbrev pub word : List ℕ → Written
word s = written k.Word s

-- a name as it stands if it is simple and no keyword, else behind a backslash
abbrev pub name : List ℕ → Written
name s = if is_simple s then written k.Name s else written k.Escaped (92 ∷ s)

-- ---- lists

-- with a comma before each
unfoldable pub others : List (List Written) → List Written
others [] = []
others (x ∷ xs) = mark (codes ",") ∷ (x ++ others xs)

-- with commas between them
abbrev pub commas : List (List Written) → List Written
commas [] = []
commas (x ∷ xs) = x ++ others xs

-- one behind the other
unfoldable pub joined : List (List Written) → List Written
joined [] = []
joined (x ∷ xs) = x ++ joined xs

-- ---- the text

abbrev pub is_kind : Kind → Kind → Bool
is_kind k j = kind_number k == kind_number j

-- a number directly before a based token is its size
abbrev pub is_size : Written → Written → Bool
is_size w v = is_kind w.kind k.Number && is_kind v.kind k.Based

-- behind `;` and `endmodule` a line ends
abbrev pub ends_line : Written → Bool
ends_line w = bytes_eq w.bytes (codes ";") || bytes_eq w.bytes (codes "endmodule")

-- between two tokens stands one space, or a newline; nothing between the size and the base of a literal
abbrev pub between : Written → Written → List ℕ
between w v = if ends_line w then 10 ∷ [] else (if is_size w v then [] else 32 ∷ [])

-- the space behind an escaped name belongs to it
abbrev pub ending : Written → List ℕ
ending w = if ends_line w then 10 ∷ [] else (if is_kind w.kind k.Escaped then 32 ∷ [] else [])

-- what stands behind a token, in front of the next one or at the end
abbrev pub behind : Written → List Written → List ℕ
behind w [] = ending w
behind w (v ∷ vs) = between w v

unfoldable pub text_of : List Written → List ℕ
text_of [] = []
text_of (w ∷ ws) = w.bytes ++ (behind w ws ++ text_of ws)
