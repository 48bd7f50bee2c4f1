-- SPDX-License-Identifier: Apache-2.0
mod Adding
mod ApplyViews
mod KindViews
mod PutEach
