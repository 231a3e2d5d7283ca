use Rattle.std.proofs.Common.{◌≡◌, ◌+◌, ◌<◌, ◌≤◌, ◌-◌, true, take, length, get_or, arith, rules, refl, sym, ap, subst, ◌∙◌}
use Rattle.std.proofs.lemmas.List.{length-map, get_or_read}
use Rattle.std.specs.Vec.{with_item}
use Rattle.lv_order.specs.declared.walk.State.TheVariants.{Open}
use Rattle.lv_order.specs.declared.walk.Walk.{Walk}
use Rattle.lv_order.specs.Graphs.{graph, goes, edges_of, has}
use Rattle.lv_order.specs.Walks.{state_at, looked, is_open, is_done}
use Rattle.lv_order.proofs.Turns.{IsTop, top-read, edges-row, state-read, goes-read, opened-turn, closed-turn, followed-turn, met-turn, pushed-goes}
use Rattle.lv_order.proofs.walk.Walk.look.Goals as goal

pub index-requires : goal.index-requires
index-requires c =
    let n : c.len.result ≡ length c.args.self.now.path.items = omega arith in
    let t : IsTop c.args.self.now.states.items c.args.self.now.path.items c.index-v.result.now = top-read (graph c.args.edges.now)
    c.args.self.now c.len.result c.index-v.result.now c.requires.walk n c.requires.some c.index-v.ensures in
    let l : c.index-v.result.now < length c.args.self.now.states.items = t.within in
    omega arith

pub offset_bounds-edges-v : goal.offset_bounds-edges-v
offset_bounds-edges-v c =
    let n : c.len.result ≡ length c.args.self.now.path.items = omega arith in
    let t : IsTop c.args.self.now.states.items c.args.self.now.path.items c.index-v.result.now = top-read (graph c.args.edges.now)
    c.args.self.now c.len.result c.index-v.result.now c.requires.walk n c.requires.some c.index-v.ensures in
    let l : c.index-v.result.now < length c.args.self.now.states.items = t.within in
    let s : state_at c.args.self.now.states.items c.index-v.result.now ≡ c.index.result.now = state-read c.args.self.now.states.items c.index-v.result.now c.index.result.now l c.index.ensures in
    let b : c.index-v.result.now < length c.args.edges.now = let z : length c.args.self.now.states.items ≡ length (graph c.args.edges.now)
    = c.requires.walk.size in omega (arith, length-map c.args.edges.now (λ r. r.items)) in
    search (rules, b)

pub bounds-edges-v : goal.bounds-edges-v
bounds-edges-v c =
    let n : c.len.result ≡ length c.args.self.now.path.items = omega arith in
    let t : IsTop c.args.self.now.states.items c.args.self.now.path.items c.index-v.result.now = top-read (graph c.args.edges.now)
    c.args.self.now c.len.result c.index-v.result.now c.requires.walk n c.requires.some c.index-v.ensures in
    let l : c.index-v.result.now < length c.args.self.now.states.items = t.within in
    let z : length c.args.self.now.states.items ≡ length (graph c.args.edges.now) = c.requires.walk.size in omega (arith, length-map c.args.edges.now (λ r. r.items))

pub close-requires : goal.close-requires
close-requires c =
    let n : c.len.result ≡ length c.args.self.now.path.items = omega arith in
    let t : IsTop c.args.self.now.states.items c.args.self.now.path.items c.index-v.result.now = top-read (graph c.args.edges.now)
    c.args.self.now c.len.result c.index-v.result.now c.requires.walk n c.requires.some c.index-v.ensures in
    let l : c.index-v.result.now < length c.args.self.now.states.items = t.within in
    l

pub returns-then-at-len : goal.returns-then-at-len
returns-then-at-len c =
    let n : c.len.result ≡ length c.args.self.now.path.items = omega arith in
    let t : IsTop c.args.self.now.states.items c.args.self.now.path.items c.index-v.result.now = top-read (graph c.args.edges.now)
    c.args.self.now c.len.result c.index-v.result.now c.requires.walk n c.requires.some c.index-v.ensures in
    let l : c.index-v.result.now < length c.args.self.now.states.items = t.within in
    let s : state_at c.args.self.now.states.items c.index-v.result.now ≡ c.index.result.now = state-read c.args.self.now.states.items c.index-v.result.now c.index.result.now l c.index.ensures in
    let b : c.index-v.result.now < length c.args.edges.now = let z : length c.args.self.now.states.items ≡ length (graph c.args.edges.now)
    = c.requires.walk.size in omega (arith, length-map c.args.edges.now (λ r. r.items)) in
    let r : edges_of (graph c.args.edges.now) c.index-v.result.now ≡ c.index-edges-v.result.items = edges-row c.args.edges.now c.index-v.result.now c.index-edges-v.result b c.index-edges-v.is in
    let m : length (edges_of (graph c.args.edges.now) c.index-v.result.now) ≤ looked (state_at c.args.self.now.states.items c.index-v.result.now) =
    subst (λ z. length z ≤ looked (state_at c.args.self.now.states.items c.index-v.result.now)) (sym r)
    (subst (λ z. length c.index-edges-v.result.items ≤ looked z) (sym s) (let q : c.looked-at.result ≡ looked c.index.result.now = c.looked-at.ensures in omega arith)) in
    closed-turn (graph c.args.edges.now) c.args.self.now c.close.new.self c.index-v.result.now c.requires.walk t m
    c.in_ok-close.ensures.states c.in_ok-close.ensures.path c.in_ok-close.ensures.list c.in_ok-close.ensures.root

pub index-requires-2 : goal.index-requires-2
index-requires-2 c =
    let n : c.len.result ≡ length c.args.self.now.path.items = omega arith in
    let t : IsTop c.args.self.now.states.items c.args.self.now.path.items c.index-v.result.now = top-read (graph c.args.edges.now)
    c.args.self.now c.len.result c.index-v.result.now c.requires.walk n c.requires.some c.index-v.ensures in
    let l : c.index-v.result.now < length c.args.self.now.states.items = t.within in
    let b : c.index-v.result.now < length c.args.edges.now = let z : length c.args.self.now.states.items ≡ length (graph c.args.edges.now)
    = c.requires.walk.size in omega (arith, length-map c.args.edges.now (λ r. r.items)) in
    let r : edges_of (graph c.args.edges.now) c.index-v.result.now ≡ c.index-edges-v.result.items = edges-row c.args.edges.now c.index-v.result.now c.index-edges-v.result b c.index-edges-v.is in
    let a : c.looked-at.result < length c.index-edges-v.result.items = omega arith in
    let g : goes (graph c.args.edges.now) c.index-v.result.now c.index-w.result.now ≡ true = goes-read (graph c.args.edges.now)
    c.index-v.result.now c.looked-at.result c.index-w.result.now c.index-edges-v.result.items r a c.index-w.ensures in
    let k : c.index-w.result.now < length c.args.self.now.states.items = let z : length c.args.self.now.states.items ≡ length (graph c.args.edges.now)
    = c.requires.walk.size in let q : c.index-w.result.now < length (graph c.args.edges.now) = c.requires.graph c.index-v.result.now c.index-w.result.now g in omega arith in
    omega arith

pub open-requires : goal.open-requires
open-requires c =
    let n : c.len.result ≡ length c.args.self.now.path.items = omega arith in
    let t : IsTop c.args.self.now.states.items c.args.self.now.path.items c.index-v.result.now = top-read (graph c.args.edges.now)
    c.args.self.now c.len.result c.index-v.result.now c.requires.walk n c.requires.some c.index-v.ensures in
    let l : c.index-v.result.now < length c.args.self.now.states.items = t.within in
    let b : c.index-v.result.now < length c.args.edges.now = let z : length c.args.self.now.states.items ≡ length (graph c.args.edges.now)
    = c.requires.walk.size in omega (arith, length-map c.args.edges.now (λ r. r.items)) in
    let r : edges_of (graph c.args.edges.now) c.index-v.result.now ≡ c.index-edges-v.result.items = edges-row c.args.edges.now c.index-v.result.now c.index-edges-v.result b c.index-edges-v.is in
    let a : c.looked-at.result < length c.index-edges-v.result.items = omega arith in
    let g : goes (graph c.args.edges.now) c.index-v.result.now c.index-w.result.now ≡ true = goes-read (graph c.args.edges.now)
    c.index-v.result.now c.looked-at.result c.index-w.result.now c.index-edges-v.result.items r a c.index-w.ensures in
    let k : c.index-w.result.now < length c.args.self.now.states.items = let z : length c.args.self.now.states.items ≡ length (graph c.args.edges.now)
    = c.requires.walk.size in let q : c.index-w.result.now < length (graph c.args.edges.now) = c.requires.graph c.index-v.result.now c.index-w.result.now g in omega arith in
    k

pub index_mut-requires : goal.index_mut-requires
index_mut-requires c =
    let n : c.len.result ≡ length c.args.self.now.path.items = omega arith in
    let t : IsTop c.args.self.now.states.items c.args.self.now.path.items c.index-v.result.now = top-read (graph c.args.edges.now)
    c.args.self.now c.len.result c.index-v.result.now c.requires.walk n c.requires.some c.index-v.ensures in
    let l : c.index-v.result.now < length c.args.self.now.states.items = t.within in
    omega arith

pub returns-in_ok-open-in-New : goal.returns-in_ok-open-in-New
returns-in_ok-open-in-New c =
    let n : c.len.result ≡ length c.args.self.now.path.items = omega arith in
    let t : IsTop c.args.self.now.states.items c.args.self.now.path.items c.index-v.result.now = top-read (graph c.args.edges.now)
    c.args.self.now c.len.result c.index-v.result.now c.requires.walk n c.requires.some c.index-v.ensures in
    let l : c.index-v.result.now < length c.args.self.now.states.items = t.within in
    let b : c.index-v.result.now < length c.args.edges.now = let z : length c.args.self.now.states.items ≡ length (graph c.args.edges.now)
    = c.requires.walk.size in omega (arith, length-map c.args.edges.now (λ r. r.items)) in
    let r : edges_of (graph c.args.edges.now) c.index-v.result.now ≡ c.index-edges-v.result.items = edges-row c.args.edges.now c.index-v.result.now c.index-edges-v.result b c.index-edges-v.is in
    let a : c.looked-at.result < length c.index-edges-v.result.items = omega arith in
    let g : goes (graph c.args.edges.now) c.index-v.result.now c.index-w.result.now ≡ true = goes-read (graph c.args.edges.now)
    c.index-v.result.now c.looked-at.result c.index-w.result.now c.index-edges-v.result.items r a c.index-w.ensures in
    let k : c.index-w.result.now < length c.args.self.now.states.items = let z : length c.args.self.now.states.items ≡ length (graph c.args.edges.now)
    = c.requires.walk.size in let q : c.index-w.result.now < length (graph c.args.edges.now) = c.requires.graph c.index-v.result.now c.index-w.result.now g in omega arith in
    let x : state_at c.args.self.now.states.items c.index-w.result.now ≡ c.index-2.result.now = state-read c.args.self.now.states.items c.index-w.result.now c.index-2.result.now k c.index-2.ensures in
    opened-turn (graph c.args.edges.now) c.args.self.now c.open.new.self c.index-w.result.now c.requires.walk k (x ∙ c.in-New.is)
    (pushed-goes (graph c.args.edges.now) c.args.self.now.path.items (take (length c.args.self.now.path.items - 1) c.args.self.now.path.items) c.index-v.result.now c.index-w.result.now t.last g)
    c.in_ok-open-in-New.ensures.states c.in_ok-open-in-New.ensures.path c.in_ok-open-in-New.ensures.list c.in_ok-open-in-New.ensures.root

pub returns-in-Open : goal.returns-in-Open
returns-in-Open c =
    let n : c.len.result ≡ length c.args.self.now.path.items = omega arith in
    let t : IsTop c.args.self.now.states.items c.args.self.now.path.items c.index-v.result.now = top-read (graph c.args.edges.now)
    c.args.self.now c.len.result c.index-v.result.now c.requires.walk n c.requires.some c.index-v.ensures in
    let l : c.index-v.result.now < length c.args.self.now.states.items = t.within in
    let b : c.index-v.result.now < length c.args.edges.now = let z : length c.args.self.now.states.items ≡ length (graph c.args.edges.now)
    = c.requires.walk.size in omega (arith, length-map c.args.edges.now (λ r. r.items)) in
    let r : edges_of (graph c.args.edges.now) c.index-v.result.now ≡ c.index-edges-v.result.items = edges-row c.args.edges.now c.index-v.result.now c.index-edges-v.result b c.index-edges-v.is in
    let a : c.looked-at.result < length c.index-edges-v.result.items = omega arith in
    let g : goes (graph c.args.edges.now) c.index-v.result.now c.index-w.result.now ≡ true = goes-read (graph c.args.edges.now)
    c.index-v.result.now c.looked-at.result c.index-w.result.now c.index-edges-v.result.items r a c.index-w.ensures in
    let k : c.index-w.result.now < length c.args.self.now.states.items = let z : length c.args.self.now.states.items ≡ length (graph c.args.edges.now)
    = c.requires.walk.size in let q : c.index-w.result.now < length (graph c.args.edges.now) = c.requires.graph c.index-v.result.now c.index-w.result.now g in omega arith in
    let x : state_at c.args.self.now.states.items c.index-w.result.now ≡ c.index-2.result.now = state-read c.args.self.now.states.items c.index-w.result.now c.index-2.result.now k c.index-2.ensures in
    met-turn (graph c.args.edges.now) c.args.self.now c.index-v.result.now c.index-w.result.now c.requires.walk t g (ap is_open (x ∙ c.in-Open.is))

pub returns-in-Done : goal.returns-in-Done
returns-in-Done c =
    let n : c.len.result ≡ length c.args.self.now.path.items = omega arith in
    let t : IsTop c.args.self.now.states.items c.args.self.now.path.items c.index-v.result.now = top-read (graph c.args.edges.now)
    c.args.self.now c.len.result c.index-v.result.now c.requires.walk n c.requires.some c.index-v.ensures in
    let l : c.index-v.result.now < length c.args.self.now.states.items = t.within in
    let s : state_at c.args.self.now.states.items c.index-v.result.now ≡ c.index.result.now = state-read c.args.self.now.states.items c.index-v.result.now c.index.result.now l c.index.ensures in
    let b : c.index-v.result.now < length c.args.edges.now = let z : length c.args.self.now.states.items ≡ length (graph c.args.edges.now)
    = c.requires.walk.size in omega (arith, length-map c.args.edges.now (λ r. r.items)) in
    let r : edges_of (graph c.args.edges.now) c.index-v.result.now ≡ c.index-edges-v.result.items = edges-row c.args.edges.now c.index-v.result.now c.index-edges-v.result b c.index-edges-v.is in
    let a : c.looked-at.result < length c.index-edges-v.result.items = omega arith in
    let g : goes (graph c.args.edges.now) c.index-v.result.now c.index-w.result.now ≡ true = goes-read (graph c.args.edges.now)
    c.index-v.result.now c.looked-at.result c.index-w.result.now c.index-edges-v.result.items r a c.index-w.ensures in
    let k : c.index-w.result.now < length c.args.self.now.states.items = let z : length c.args.self.now.states.items ≡ length (graph c.args.edges.now)
    = c.requires.walk.size in let q : c.index-w.result.now < length (graph c.args.edges.now) = c.requires.graph c.index-v.result.now c.index-w.result.now g in omega arith in
    let x : state_at c.args.self.now.states.items c.index-w.result.now ≡ c.index-2.result.now = state-read c.args.self.now.states.items c.index-w.result.now c.index-2.result.now k c.index-2.ensures in
    let d : has c.args.self.now.list.items c.index-w.result.now ≡ true = c.requires.walk.closed c.index-w.result.now ∙ ap is_done (x ∙ c.in-Done.is) in
    let new : Walk = record {
      states = with_item c.args.self.now.states c.index-v.result.now (Open (c.looked-at.result + 1));
      path = c.args.self.now.path;
      list = c.args.self.now.list;
      root = c.args.self.now.root;
    } in
    let f : get_or (edges_of (graph c.args.edges.now) c.index-v.result.now) c.looked-at.result 0 ≡ c.index-w.result.now =
    ap (λ z. get_or z c.looked-at.result 0) r ∙ sym (get_or_read c.index-edges-v.result.items c.looked-at.result c.index-w.result.now a c.index-w.ensures 0) in
    followed-turn (graph c.args.edges.now) c.args.self.now new c.index-v.result.now c.looked-at.result c.requires.walk t
    (c.looked-at.ensures ∙ ap looked (sym s)) (subst (λ z. c.looked-at.result < length z) (sym r) a) (subst (λ z. has c.args.self.now.list.items z ≡ true) (sym f) d)
    refl refl refl refl
