-- What a use of a name stands for (RFC 8610, sections 2.2.2, 3.1, 3.9 and 3.10). Nothing is substituted: a body is read under a frame.
use Rattle.std.specs.Prelude.{ℕ, Bool, true, false, if◌then◌else◌, List, [], ◌∷◌, map, Option, Some, None, slice_get, unwrap_or, option_and_then, option_map}
use Rattle.ecd_syntax.specs.declared.tree.Entry.{Entry}
use Rattle.ecd_syntax.specs.declared.tree.Name.{Name}
use Rattle.ecd_syntax.specs.declared.tree.Rule.{Rule}
use Rattle.ecd_syntax.specs.declared.tree.Type1.{Type1}
use Rattle.ecd_bodies.specs.Named.{bodies_of, is_float, is_in_text, parameter_number}

-- What the parameters of the rule around stand for: its parameters, the arguments of the use, and the frame in which these were written (RFC 8610, section
-- 3.10). A body of the prelude has the place of the use that led into the prelude, in the stead of its own places.
pub data Frame : Type 0 where
  Outermost : Frame
  Inside : (params : List Name) → (args : List Type1) → (outer : Frame) → (stead : Option ℕ) → Frame

-- an argument, or a form that a name leads to, under its frame
pub record Choice : Type 0 where
  pub frame : Frame
  pub choice : Type1

-- an instance of a body: the body under its frame
pub record Instance : Type 0 where
  pub frame : Frame
  pub body : Entry

abbrev pub params_in : Frame → List Name
params_in Outermost = []
params_in (Inside params args outer stead) = params

abbrev pub stead_in : Frame → Option ℕ
stead_in Outermost = None
stead_in (Inside params args outer stead) = stead

-- the place of a node that comes from syntax at this place
abbrev pub place_in : Frame → ℕ → ℕ
place_in frame at = unwrap_or (stead_in frame) at

-- the argument that a parameter of this name stands for
abbrev pub argument_in : Frame → List ℕ → Option Choice
argument_in Outermost name = None
argument_in (Inside params args outer stead) name = option_map (λ arg. record { frame = outer; choice = arg }) (option_and_then (slice_get args) (parameter_number params name))

-- what stands for the places in the bodies of a name: nothing for a rule of the text, and the use for one of the prelude
abbrev pub stead_of : List Rule → Frame → Name → Option ℕ
stead_of text frame name = if is_in_text text name.text then None else Some (place_in frame name.at)

abbrev pub instance_of : List Rule → Frame → Name → List Type1 → Rule → Instance
instance_of text frame name args rule = record { frame = Inside rule.params args frame (stead_of text frame name); body = rule.body }

-- the bodies of a name, in the order of the text, each under the frame that the use gives it. A socket may have none (RFC 8610, section 3.9)
abbrev pub instances_of : List Rule → Frame → Name → List Type1 → List Instance
instances_of text frame name args = map (instance_of text frame name args) (bodies_of text name.text)

-- what a use of a name stands for: an argument, a float, or the bodies of the name
pub data Standing : Type 0 where
  Argument : Choice → Standing
  AFloat : Standing
  Bodies : List Instance → Standing

abbrev pub unless_argument : Option Choice → Bool → List Instance → Standing
unless_argument (Some argument) float instances = Argument argument
unless_argument None true instances = AFloat
unless_argument None false instances = Bodies instances

abbrev pub standing_of : List Rule → Frame → Name → List Type1 → Standing
standing_of text frame name args = unless_argument (argument_in frame name.text) (is_float name.text) (instances_of text frame name args)
