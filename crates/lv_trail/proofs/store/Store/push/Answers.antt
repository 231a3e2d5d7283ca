use Rattle.std.proofs.Common.{◌+◌, ◌-◌, set, ap, refl, arith}
use Rattle.lv_trail.proofs.Pushing.{len-below, sound, entries-pushed}
use Rattle.lv_trail.proofs.store.Store.push.Goals as goal

pub index_mut-requires : goal.index_mut-requires
index_mut-requires c = let b = len-below c.args.self.now c.requires.sound c.args.entry.lit c.requires.free in omega (arith, b, c.requires.sound.slots, c.args.self.now.slots.ok)

pub returns-clause-sound : goal.returns-clause-sound
returns-clause-sound c = sound c.args.self.now _ c.args.entry c.requires.sound c.requires.free c.requires.step (record { vars = refl; clauses = refl; slots = refl; len = refl; places = ap (λ z. set c.args.self.now.places.items (z - 1) (c.args.self.now.len + 1)) c.var.ensures.is; level = refl })

pub returns-clause-entries : goal.returns-clause-entries
returns-clause-entries c = entries-pushed c.args.self.now c.args.entry c.requires.sound c.requires.free
