-- SPDX-License-Identifier: Apache-2.0
use Rattle.cedar_names.specs.Extensions.{extension_words}
use Rattle.cedar_json_held_laws.proofs.read_back.held_is_written_and_read_back.Goals as goal

pub returns : goal.returns
returns c = λ readable sound.
    c.written_and_read_back.ensures.same (c.what_is_held_may_be_written.ensures.writable (extension_words c.args.extensions.now) readable sound) sound
