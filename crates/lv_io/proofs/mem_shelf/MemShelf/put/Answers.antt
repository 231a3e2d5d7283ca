use Rattle.std.proofs.Common.{◌≡◌, ◌++◌, [], ◌∷◌, None, true, is_ok, arith, rules}
use Rattle.lv_io.specs.MemFiles.{StandsAt, lookup}
use Rattle.lv_io.proofs.Lookup.{lookup-set_same, lookup-set_other, lookup-push_same, lookup-push_other, stands_within}
use Rattle.lv_io.proofs.mem_shelf.MemShelf.put.Goals as goal

pub index_mut-requires : goal.index_mut-requires
index_mut-requires c = omega (arith, stands_within _ _ _ c.in-Some.ensures)

pub returns-in-Some-clause-file : goal.returns-in-Some-clause-file
returns-in-Some-clause-file c =
    let stands : StandsAt c.args.self.now.files.items c.args.name c.in-Some.place =
    rw (← c.deref.ensures.value, ← c.bytes.ensures) c.in-Some.ensures in
    lookup-set_same c.args.self.now.files.items c.in-Some.place c.args.name c.args.bytes stands

pub returns-in-Some-clause-others : goal.returns-in-Some-clause-others
returns-in-Some-clause-others c =
    let stands : StandsAt c.args.self.now.files.items c.args.name c.in-Some.place =
    rw (← c.deref.ensures.value, ← c.bytes.ensures) c.in-Some.ensures in
    λ other ne. lookup-set_other c.args.self.now.files.items c.in-Some.place c.args.name c.args.bytes other stands ne

pub returns-in_ok-map_err-in-None-clause-file : goal.returns-in_ok-map_err-in-None-clause-file
returns-in_ok-map_err-in-None-clause-file c =
    let ok : is_ok c.push.result ≡ true = search rules in
    let pushed : c.push.new.self.items ≡ c.args.self.now.files.items ++ record { name = c.args.name; bytes = c.args.bytes } ∷ [] = rw ok at c.push.ensures.items in
    let none : lookup c.args.self.now.files.items c.args.name ≡ None =
    rw (← c.deref.ensures.value, ← c.bytes.ensures) c.in-None.ensures in
    rw pushed (lookup-push_same c.args.self.now.files.items c.args.name c.args.bytes none)

pub returns-in_ok-map_err-in-None-clause-others : goal.returns-in_ok-map_err-in-None-clause-others
returns-in_ok-map_err-in-None-clause-others c =
    let ok : is_ok c.push.result ≡ true = search rules in
    let pushed : c.push.new.self.items ≡ c.args.self.now.files.items ++ record { name = c.args.name; bytes = c.args.bytes } ∷ [] = rw ok at c.push.ensures.items in
    λ other ne. rw pushed (lookup-push_other c.args.self.now.files.items c.args.name c.args.bytes other ne)
