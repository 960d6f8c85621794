-- What the meaning of an entry or a choice takes of the visits a level further in.
use Rattle.std.specs.Prelude.{ℕ, List, [], ◌∷◌, ◌++◌}
use Rattle.ecd_syntax.specs.declared.tree.Alts.{Alts, out-Alts}
use Rattle.ecd_syntax.specs.declared.tree.Entry.{Entry}
use Rattle.ecd_syntax.specs.declared.tree.Form.TheOpen as forms
use Rattle.ecd_syntax.specs.declared.tree.Rule.{Rule}
use Rattle.ecd_syntax.specs.declared.tree.Type1.{Type1}
use Rattle.ecd_core.specs.declared.shape.Shape.{Shape}
use Rattle.ecd_core.specs.declared.shape.Kind.TheVariants as k
use Rattle.ecd_core.specs.declared.shape.Part.{Part}
use Rattle.ecd_core.specs.declared.shape.MapEntry.{MapEntry}
use Rattle.ecd_expansion.specs.Frames.{Frame, place_in}
use Rattle.ecd_expansion.specs.Kinds.{AKey}
use Rattle.ecd_expansion.specs.Groups.{GroupWalk, no_group}
use Rattle.ecd_expansion.specs.Leaves.{gives, literal_meaning}
use Rattle.ecd_expansion.specs.Operators.{shape_of}
use Rattle.ecd_expansion.specs.Told.{Told, told, changed, told_all}

-- the alternatives of a choice, of an entry that is a type and of the content of a tag behind `~`; and entries in arrays, in maps and behind `&`
pub record Walk : Type 0 where
  pub choice : Frame → Type1 → Told (List Shape)
  pub entry : Frame → Entry → Told (List Shape)
  pub content : Frame → Type1 → Told (List Shape)
  pub arrays : GroupWalk Part
  pub maps : GroupWalk MapEntry
  pub enums : GroupWalk Shape

-- where no level is left
abbrev pub no_walk : Walk
no_walk = record { choice = λ _ _. told []; entry = λ _ _. told []; content = λ _ _. told []; arrays = no_group; maps = no_group; enums = no_group }

-- the alternatives of a type: those of its choices, so that no choice stands directly in a choice (RFC 8610, section 2.2.2)
abbrev pub type_meaning : Walk → Frame → Alts → Told (List Shape)
type_meaning walk frame t = told_all (walk.choice frame) (out-Alts t).choices

-- a type as one shape
abbrev pub type_shape : Walk → Frame → Alts → Told Shape
type_shape walk frame t = changed (shape_of (place_in frame (out-Alts t).at)) (type_meaning walk frame t)

-- a key: a word stands for its text (RFC 8610, section 3.5.1)
abbrev pub key_meaning : Walk → Frame → AKey → Told (List Shape)
key_meaning walk frame forms.Missing = told []
key_meaning walk frame (forms.Arrow of cut) = walk.choice frame of
key_meaning walk frame (forms.Word name) = gives (place_in frame name.at) (k.TextIs name.text)
key_meaning walk frame (forms.Key::Lit at of) = literal_meaning (place_in frame at) of
