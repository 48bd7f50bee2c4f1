-- SPDX-License-Identifier: Apache-2.0
use Rattle.cedar_reread_laws.proofs.Denoting.{read_again_denotes, read_again_sound}
use Rattle.cedar_reread_laws.proofs.laws.what_is_read_again_denotes_the_same.Goals as goal

pub returns-clause-sound : goal.returns-clause-sound
returns-clause-sound c = λ F X ordered printable sound. read_again_sound F X ordered printable sound

pub returns-clause-denotes : goal.returns-clause-denotes
returns-clause-denotes c = λ F X S ordered printable sound d. read_again_denotes F X ordered printable sound S d
