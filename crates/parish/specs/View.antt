-- A parish in the program, seen as two lists. Assumes nothing.
use Rattle.std.specs.Prelude.{vec_items}
use Rattle.parish.specs.declared.store.Parish.{Parish}
use Rattle.parish.specs.Model.{Model}

-- the two lists of a parish
abbrev pub view : Parish → Model
view p = record { households = vec_items p.households; links = vec_items p.links }
