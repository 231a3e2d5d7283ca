-- What the next token may be, of each grammar that can be read by its next token alone.
use Rattle.std.specs.Prelude.{◌≡◌, List, [], ◌∷◌, ◌++◌, true}
use Rattle.std.proofs.Common.{refl, sym, subst}
use Rattle.lv_grammars.specs.Grammar.{Base, Gram}
use Rattle.lv_grammars.specs.Spelling.{Language, called, IsSpelled}
use Rattle.lv_grammars.specs.Sets.{Table, may_be_empty, first, next, is_good}
use Rattle.lv_grammars.specs.Facts.{IsBase, IsLanguage, Facts}
use Rattle.lv_grammars.proofs.Lists.{cut_once_more}
use Rattle.lv_grammars.proofs.Known.{Known, Goes}
use Rattle.lv_grammars.proofs.Grammars.{known_of, known_called, tree_of}
use Rattle.lv_grammars.proofs.Hangs.{hangs_spelled}

pub facts_of : (b : Base) (t : Table b) (l : Language b) → IsBase b → IsLanguage b t l → {A : Type 0} (g : Gram b A) → is_good b t g ≡ true → Facts b t l g
facts_of b t l i a g z = go (known_of b i t l.leaves (called b l) a.leaves (known_called b i t l a) g z)
  where
    go : Known b t (IsSpelled b l g) (first b t g) (next b t g) (may_be_empty b g) → Facts b t l g
    go k = record {
      starts = λ m us o x h. k.starts m us (m ∷ us) o x refl h;
      some = λ e o x h. k.some e [] o x refl h;
      goes = λ us o x m h j. k.goes us ((us ++ (m ∷ [])) ++ j.more) j.more m o j.ending x j.tree (sym (cut_once_more us m j.more)) h j.spelled;
      hangs = λ us x m h f.
          let u : Goes (IsSpelled b l g) us m = hangs_spelled b i t l a m f g z us x h in
          record { more = u.0; ending = u.1; tree = u.2; spelled = subst (λ (w : List b.Token). IsSpelled b l g w u.1 u.2) (cut_once_more us m u.0) u.3 };
      one = λ us o p x y h j. k.one us us o p x y refl h j;
      witness = tree_of b i t l.leaves (called b l) a.leaves a.witness g;
    }
