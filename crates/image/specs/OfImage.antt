-- An image's parts and its meaning, for crates that do not see its fields.
--     bytes_of                 its bytes
--     state_of, layers_of      its state and what no call changes of it
--     Placed                   the byte where a sector begins, or 16 for a sector that the image does not have
--     Reached                  the same with the power on, or 9
use Rattle.std.specs.Prelude.{◌≡◌, ℕ, ◌*◌, ◌<◌, ◌≤◌, true, false, List, Result, Ok, Err}
use Rattle.disk.specs.Sectors.{DiskState, count}
use Rattle.disk.specs.Layers.{Layers}
use Rattle.disk.specs.declared.faults.Fault.{Fault}
use Rattle.disk.specs.declared.faults.Fault.TheVariants.{PowerOff, Unreadable, NoSuchSector}
use Rattle.image.specs.Images.{count_in, image_state, image_layers}
use Rattle.image.specs.declared.Image.{Image}

abbrev pub bytes_of : Image → List ℕ
bytes_of image = image.bytes.now

abbrev pub state_of : Image → DiskState
state_of image = image_state image.bytes.now image.power

abbrev pub layers_of : Image → Layers
layers_of image = image_layers image.bytes.ghost_name image.bytes.now

abbrev pub Placed : Image → ℕ → Result ℕ Fault → Type 0
Placed image s (Ok at) = (s < count_in (bytes_of image)) × (at ≡ s * 513)
Placed image s (Err (PowerOff p)) = ⊥
Placed image s (Err (Unreadable p)) = ⊥
Placed image s (Err NoSuchSector) = count (state_of image) ≤ s

abbrev pub Reached : Image → ℕ → Result ℕ Fault → Type 0
Reached image s (Ok at) = (image.power ≡ true) × (s < count_in (bytes_of image)) × (at ≡ s * 513)
Reached image s (Err (PowerOff p)) = (image.power ≡ false) × (p ≡ s)
Reached image s (Err (Unreadable p)) = ⊥
Reached image s (Err NoSuchSector) = (image.power ≡ true) × (count (state_of image) ≤ s)
