-- Where something is read there is one answer.
use Rattle.std.specs.Prelude.{◌≡◌, List, [], ◌∷◌, ◌++◌}
use Rattle.std.proofs.Common.{sym, ◌∙◌, subst, append_assoc, append-nil}
use Rattle.lv_grammars.specs.Grammar.{Base, Gram}
use Rattle.lv_grammars.specs.Spelling.{Language, IsSpelled}
use Rattle.lv_grammars.specs.Sets.{Table}
use Rattle.lv_grammars.specs.Reading.{Reads, Fails, Passes}
use Rattle.lv_grammars.specs.Facts.{IsWithin, Facts}
use Rattle.lv_grammars.proofs.Lists.{same, longer, shorter, cuts}
use Rattle.lv_grammars.proofs.Calls.{is_within}

module _ (b : Base) (all low : Language b) (w : IsWithin b low all) where
  -- what is read within the limits is read without
  read_without : {A : Type 0} (g : Gram b A) (ts us : List b.Token) (x : A) → Reads b all low g ts x us → Reads b all all g ts x us
  read_without g ts us x p = record { front = p.front; ending = p.ending; cut = p.cut; spelled = is_within b low all w g p.front p.ending x p.spelled; ends = p.ends }

  -- the tokens that one reader has read of those that go further are no tree's whole spelling
  further : {A : Type 0} (g : Gram b A) (ts us vs : List b.Token) (x y : A) (p : Reads b all low g ts x us) (q : Reads b all low g ts y vs) (t : b.Token) (m : List b.Token) →
      p.front ≡ q.front ++ (t ∷ m) → vs ≡ t ∷ (m ++ us) → ⊥
  further g ts us vs x y p q t m e f = q.ends t (m ++ us) f (record {
    more = m;
    ending = p.ending;
    tree = x;
    spelled = subst (λ (v : List b.Token). IsSpelled b all g v p.ending x) (e ∙ sym (append_assoc q.front (t ∷ []) m)) (is_within b low all w g p.front p.ending x p.spelled);
  })

  pub reads_one : (t : Table b) {A : Type 0} (g : Gram b A) → Facts b t all g → (ts us vs : List b.Token) (x y : A) → Reads b all low g ts x us → Reads b all low g ts y vs → (x ≡ y) × (us ≡ vs)
  reads_one t g k ts us vs x y p q = elim (cuts p.front us q.front vs (sym p.cut ∙ q.cut)) [
    | same a c ↦ (
      k.one q.front p.ending q.ending x y
          (subst (λ (v : List b.Token). IsSpelled b all g v p.ending x) a (is_within b low all w g p.front p.ending x p.spelled))
          (is_within b low all w g q.front q.ending y q.spelled),
      c,
    )
    | longer s m a c ↦ absurd (further g ts us vs x y p q s m a c)
    | shorter s m a c ↦ absurd (further g ts vs us y x q p s m a c)
  ]

  pub reads_not_fails : {A : Type 0} (g : Gram b A) (ts us rest : List b.Token) (x : A) → Reads b all low g ts x us → Fails b all g ts rest → ⊥
  reads_not_fails g ts us rest x p q = q.none x us (read_without g ts us x p)

  pub reads_not_passes : {A : Type 0} (g : Gram b A) (ts us rest : List b.Token) (x : A) → Reads b all low g ts x us → Passes b all low g ts rest → ⊥
  reads_not_passes g ts us rest x p q = elim (cuts p.front us (q.front ++ (q.token ∷ [])) q.others (sym p.cut ∙ q.cut ∙ sym (append_assoc q.front (q.token ∷ []) q.others))) [
    | same a c ↦ q.high (record {
      more = [];
      ending = p.ending;
      tree = x;
      spelled = subst (λ (v : List b.Token). IsSpelled b low g v p.ending x) (a ∙ sym (append-nil (q.front ++ (q.token ∷ [])))) p.spelled;
    })
    | longer s m a c ↦ q.high (record { more = s ∷ m; ending = p.ending; tree = x; spelled = subst (λ (v : List b.Token). IsSpelled b low g v p.ending x) a p.spelled })
    | shorter s m a c ↦ p.ends s (m ++ q.others) c (record {
      more = m ++ q.alive.more;
      ending = q.alive.ending;
      tree = q.alive.tree;
      spelled = subst (λ (v : List b.Token). IsSpelled b all g v q.alive.ending q.alive.tree) (longer_front s m a) q.alive.spelled;
    })
  ]
    where
      longer_front : (s : b.Token) (m : List b.Token) → q.front ++ (q.token ∷ []) ≡ p.front ++ (s ∷ m) → (q.front ++ (q.token ∷ [])) ++ q.alive.more ≡ (p.front ++ (s ∷ [])) ++ (m ++ q.alive.more)
      longer_front s m a = rw a (append_assoc p.front (s ∷ m) q.alive.more ∙ sym (append_assoc p.front (s ∷ []) (m ++ q.alive.more)))
